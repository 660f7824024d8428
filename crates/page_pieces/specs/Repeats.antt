-- Attributes whose names are not all different.
use Rattle.std.specs.Prelude.{◌∷◌, ◌||◌, ℕ, Bool, false, List, []}
use Rattle.std.specs.Str.{bytes_eq}
use Rattle.page_pieces.specs.declared.attribute.Attribute.{Attribute}

-- whether one of these attributes has that name
abbrev pub has_name : List ℕ → List Attribute → Bool
has_name name [] = false
has_name name (attribute ∷ attributes) = bytes_eq attribute.name name || has_name name attributes

-- whether a name stands twice
abbrev pub has_repeat : List Attribute → Bool
has_repeat [] = false
has_repeat (attribute ∷ attributes) = has_name attribute.name attributes || has_repeat attributes
