-- Where the first attribute of a name stands, as the program keeps it. No public contract speaks of it.
use Rattle.std.specs.Prelude.{◌≡◌, ◌∷◌, zero, suc, ℕ, List, [], Option, Some, None, String, if◌then◌else◌}
use Rattle.std.specs.BTreeMap.{BTreeMap, get_by_text}
use Rattle.std.specs.Option.{option_map}
use Rattle.std.specs.Str.{bytes_eq}
use Rattle.page_pieces.specs.declared.attribute.Attribute.{Attribute}

-- behind how many others the first attribute of that name stands
abbrev pub first_at : List ℕ → List Attribute → Option ℕ
first_at name [] = None
first_at name (attribute ∷ attributes) = if bytes_eq attribute.name name then Some zero else option_map suc (first_at name attributes)

-- the map has where the first of each name stands among these attributes
abbrev pub HasFirsts : {A : Type 0} → BTreeMap (String A) ℕ → List Attribute → Type 0
HasFirsts firsts attributes = (name : List ℕ) → get_by_text firsts name ≡ first_at name attributes
