-- The names that `jsp:attribute` gives, by what stands in a body as the program has it. No public contract speaks of it.
use Rattle.std.specs.Prelude.{ℕ, List, [], ◌∷◌, ◌++◌}
use Rattle.jstl_tags.specs.declared.standing.Standing.{Standing}
use Rattle.jstl_tags.specs.declared.standing.Standing.TheVariants as made
use Rattle.jstl_tags.specs.Content.{part_name}

abbrev pub part_names_of : List Standing → List (List ℕ)
part_names_of [] = []
part_names_of (made.Element prefix name attributes ∷ more) = part_name (record { prefix = prefix.now; name = name.now; attributes = attributes.now }) ++ part_names_of more
part_names_of (thing ∷ more) = part_names_of more
