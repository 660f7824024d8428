-- The names of the attributes that are given, as the program has them.
use Rattle.std.specs.Prelude.{ℕ, List, [], ◌++◌, map, if◌then◌else◌}
use Rattle.jstl_tags.specs.declared.given.Given.{Given}
use Rattle.jstl_tags.specs.Content.{attribute_names}
use Rattle.jstl_tags.specs.Standing.{part_names_in, standing_made}

-- the names of the attributes that `jsp:attribute` gives
abbrev pub part_names_made : Given → List (List ℕ)
part_names_made given = if given.takes_parts then part_names_in (map standing_made given.body.now) else []

-- the names of the attributes that are written, and of those that `jsp:attribute` gives
abbrev pub names_made : Given → List (List ℕ)
names_made given = attribute_names given.attributes.now ++ part_names_made given
