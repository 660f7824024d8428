-- Where the first declaration of a name stands, as the program keeps it. No public contract speaks of it.
use Rattle.std.specs.Prelude.{◌≡◌, ℕ, List, Option, String}
use Rattle.std.specs.BTreeMap.{BTreeMap, get_by_text}
use Rattle.std.specs.List.{find, slice_get}
use Rattle.std.specs.Option.{option_and_then}
use Rattle.std.specs.Str.{bytes_eq}
use Rattle.tag_decl.specs.declared.declaration.AttrDecl.{AttrDecl}

-- the first declaration of a name
abbrev pub first_named : List ℕ → List AttrDecl → Option AttrDecl
first_named name decls = find (λ decl. bytes_eq decl.name name) decls

-- the first declaration of a name stands among these where the map says, if it says where
abbrev pub HasFirsts : {A : Type 0} → BTreeMap (String A) ℕ → List AttrDecl → Type 0
HasFirsts firsts decls = (name : List ℕ) → option_and_then (slice_get decls) (get_by_text firsts name) ≡ first_named name decls
