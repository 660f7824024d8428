-- What stands in the body of an element, one thing after the other, as the program sees it.
use Rattle.std.specs.Prelude.{◌≡◌, ℕ, List, [], ◌∷◌, ◌++◌, map, if◌then◌else◌}
use Rattle.page_pieces.specs.declared.piece.Tag.{Tag}
use Rattle.page_pieces.specs.declared.piece.Leaf.{Leaf}
use Rattle.page_reader.specs.Trees.{Tree, done, leaf, element}
use Rattle.jstl_tags.specs.declared.standing.Standing.{Standing as Made}
use Rattle.jstl_tags.specs.declared.standing.Standing.TheVariants as made
use Rattle.jstl_tags.specs.declared.standing.Body.{Body}
use Rattle.jstl_tags.specs.Content.{is_content, is_blank_leaf, inner, part_name}

-- white space; other content; an element
pub data Standing : Type 0 where
  blank other : Standing
  tag : Tag → Standing

abbrev pub leaf_standing : Leaf → List Standing
leaf_standing kind = if is_content kind then (if is_blank_leaf kind then blank else other) ∷ [] else []

-- what stands among these nodes
abbrev pub standing_in : Tree → List Standing
standing_in done = []
standing_in (leaf kind place next) = leaf_standing kind ++ standing_in next
standing_in (element opened body next) = tag opened.tag ∷ standing_in next

-- the same as the program has it
abbrev pub standing_made : Made → Standing
standing_made made.Blank = blank
standing_made made.Other = other
standing_made (made.Element prefix name attributes) = tag (record { prefix = prefix.now; name = name.now; attributes = attributes.now })

-- this is the body of an element: what stands there, and what stands in the `jsp:body` elements there
abbrev pub IsBody : Body → Tree → Type 0
IsBody body tree = (map standing_made body.standing.now ≡ standing_in tree) × (map standing_made body.inner.now ≡ standing_in (inner tree))

-- the names of the attributes that `jsp:attribute` gives
abbrev pub part_names_in : List Standing → List (List ℕ)
part_names_in [] = []
part_names_in (tag t ∷ more) = part_name t ++ part_names_in more
part_names_in (thing ∷ more) = part_names_in more
