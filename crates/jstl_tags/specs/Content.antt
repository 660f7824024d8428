-- What stands in the body of an element, with static includes in place.
use Rattle.std.specs.Prelude.{ℕ, Bool, true, false, not, ◌&&◌, ◌||◌, List, [], ◌∷◌, ◌++◌, codes, if◌then◌else◌}
use Rattle.std.specs.List.{list_all}
use Rattle.std.specs.Option.{option_to_list}
use Rattle.std.specs.Str.{bytes_eq}
use Rattle.page_pieces.specs.declared.attribute.Attribute.{Attribute}
use Rattle.page_pieces.specs.declared.piece.Tag.{Tag}
use Rattle.page_pieces.specs.declared.piece.Leaf.{Leaf}
use Rattle.page_pieces.specs.declared.piece.Leaf.TheVariants as leaves
use Rattle.page_pieces.specs.Names.{is_white}
use Rattle.page_pieces.specs.Settings.{value_of}
use Rattle.page_reader.specs.Trees.{Tree, done, leaf, element, joined}

-- the element `jsp:` and this name
abbrev pub is_standard : List ℕ → Tag → Bool
is_standard name tag = bytes_eq tag.prefix (codes "jsp") && bytes_eq tag.name name

-- comments and directives are no content; white space alone is blank
abbrev pub is_content : Leaf → Bool
is_content leaves.Comment = false
is_content (leaves.Directive name attributes) = false
is_content _ = true

abbrev pub is_blank_leaf : Leaf → Bool
is_blank_leaf (leaves.Text text) = list_all is_white text
is_blank_leaf other = not (is_content other)

-- nothing stands there, not even white space
abbrev pub is_empty : Tree → Bool
is_empty done = true
is_empty (leaf kind place next) = not (is_content kind) && is_empty next
is_empty (element opened body next) = false

-- something else stands there than these elements, white space apart
abbrev pub has_other : (Tag → Bool) → Tree → Bool
has_other is_part done = false
has_other is_part (leaf kind place next) = not (is_blank_leaf kind) || has_other is_part next
has_other is_part (element opened body next) = not (is_part opened.tag) || has_other is_part next

-- one of these elements stands there
abbrev pub has_element : (Tag → Bool) → Tree → Bool
has_element is_part done = false
has_element is_part (leaf kind place next) = has_element is_part next
has_element is_part (element opened body next) = is_part opened.tag || has_element is_part next

-- the same behind the first of them
abbrev pub has_two : (Tag → Bool) → Tree → Bool
has_two is_part done = false
has_two is_part (leaf kind place next) = has_two is_part next
has_two is_part (element opened body next) = if is_part opened.tag then has_element is_part next else has_two is_part next

-- `jsp:attribute` and `jsp:body` are parts of any action but these, which take none
abbrev pub takes_parts : Tag → Bool
takes_parts tag = not (is_standard (codes "attribute") tag || (is_standard (codes "body") tag || is_standard (codes "text") tag))

abbrev pub is_part : Tag → Bool
is_part tag = is_standard (codes "attribute") tag || is_standard (codes "body") tag

-- the attributes or the body are given by parts
abbrev pub is_split : Tag → Tree → Bool
is_split tag body = takes_parts tag && has_element is_part body

-- the nodes of what `jsp:body` holds
abbrev pub inner : Tree → Tree
inner done = done
inner (leaf kind place next) = inner next
inner (element opened body next) = if is_standard (codes "body") opened.tag then joined body (inner next) else inner next

-- the nodes that are the body of an element
abbrev pub body_of : Tag → Tree → Tree
body_of tag body = if is_split tag body then inner body else body

abbrev pub attribute_names : List Attribute → List (List ℕ)
attribute_names [] = []
attribute_names (a ∷ attributes) = a.name ∷ attribute_names attributes

-- the name of the attribute that an element gives, where it is `jsp:attribute`; without a plain name it gives none
abbrev pub part_name : Tag → List (List ℕ)
part_name tag = if is_standard (codes "attribute") tag then option_to_list (value_of (codes "name") tag.attributes) else []

-- the names of the attributes that `jsp:attribute` gives
abbrev pub part_names : Tree → List (List ℕ)
part_names done = []
part_names (leaf kind place next) = part_names next
part_names (element opened body next) = part_name opened.tag ++ part_names next

-- the names of all attributes that are given
abbrev pub given_names : Tag → Tree → List (List ℕ)
given_names tag body = attribute_names tag.attributes ++ (if takes_parts tag then part_names body else [])
