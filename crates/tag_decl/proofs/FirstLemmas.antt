-- Where the first declaration of a name stands.
use Rattle.std.proofs.Common.{◌≡◌, ◌∙◌, ◌<◌, ℕ, suc, Bool, true, false, cond, List, [], ◌∷◌, length, drop, get_or, drop-cons, refl, sym, ap, Some}
use Rattle.std.proofs.lemmas.Map.Text.{btree_map_updates_text}
use Rattle.std.proofs.lemmas.Option.{slice_get_read}
use Rattle.std.specs.BTreeMap.{BTreeMap, IsEmpty, Updates, get_by_text, is_at}
use Rattle.std.specs.Cmp.Lexicographic.{slice_cmp}
use Rattle.std.specs.List.{slice_get}
use Rattle.std.specs.Map.{lookup}
use Rattle.std.specs.Option.{option_and_then}
use Rattle.std.specs.Ordering.{nat_cmp}
use Rattle.std.specs.Prelude.{String, string_bytes}
use Rattle.std.specs.Str.{bytes_eq}
use Rattle.std.specs.String.{string_cmp}
use Rattle.tag_decl.specs.declared.declaration.AttrDecl.{AttrDecl}
use Rattle.tag_decl.specs.ReadFirsts.{first_named}

-- the map says where the declaration of a name stands among those from this place on
abbrev pub HasFirstsFrom : {A : Type 0} → ℕ → BTreeMap (String A) ℕ → List AttrDecl → Type 0
HasFirstsFrom from firsts decls = (name : List ℕ) → option_and_then (slice_get decls) (get_by_text firsts name) ≡ first_named name (drop from decls)

drop_all : {A : Type 0} (all : List A) → drop (length all) all ≡ []
drop_all [] = refl
drop_all (x ∷ all) = drop_all all

-- no name was met
pub firsts_none : {A : Type 0} (firsts : BTreeMap (String A) ℕ) (from : ℕ) (decls : List AttrDecl) → from ≡ length decls → IsEmpty firsts → HasFirstsFrom from firsts decls
firsts_none firsts from decls end empty name =
    ap (λ entries. option_and_then (slice_get decls) (lookup (is_at (λ k. slice_cmp nat_cmp name (string_bytes k))) entries)) empty
    ∙ sym (ap (first_named name) (ap (λ n. drop n decls) end ∙ drop_all decls))

-- a declaration before those takes the place of those of its name
pub firsts_more : {A : Type 0} (old new : BTreeMap (String A) ℕ) (key : String A) (at from : ℕ) (decl : AttrDecl) (decls : List AttrDecl) → at < length decls → decl ≡ get_or decls at decl → from ≡ suc at → string_bytes key ≡ decl.name
    → Updates string_cmp old new key (Some at) → HasFirstsFrom from old decls → HasFirstsFrom at new decls
firsts_more old new key at from decl decls within is next key_is updates has name =
    ap (option_and_then (slice_get decls)) (btree_map_updates_text (string_bytes key) old new (Some at) updates name ∙ ap (λ k. cond (bytes_eq k name) (Some at) (get_by_text old name)) key_is)
    ∙ (by_name (bytes_eq decl.name name) ∙ sym (ap (first_named name) (drop-cons decls at decl within ∙ (λ i. sym is i ∷ drop (sym next i) decls))))
  where
    by_name : (b : Bool) → option_and_then (slice_get decls) (cond b (Some at) (get_by_text old name)) ≡ cond b (Some decl) (first_named name (drop from decls))
    by_name true = slice_get_read decls (length decls) at decl refl within is
    by_name false = has name
