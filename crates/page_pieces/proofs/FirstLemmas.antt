-- Where the first attribute of a name stands.
use Rattle.std.proofs.Common.{◌≡◌, ◌∙◌, ◌<◌, ℕ, zero, suc, Bool, true, false, cond, List, [], ◌∷◌, ◌++◌, length, take, refl, sym, ap, Option, Some, None, arith}
use Rattle.std.proofs.lemmas.List.{length-take-le}
use Rattle.std.proofs.lemmas.Map.Text.{btree_map_updates_text}
use Rattle.std.specs.BTreeMap.{BTreeMap, IsEmpty, Updates, get_by_text, is_at}
use Rattle.std.specs.Cmp.Lexicographic.{slice_cmp}
use Rattle.std.specs.List.{slice_get}
use Rattle.std.specs.Map.{lookup}
use Rattle.std.specs.Option.{is_some, option_and_then, option_map, option_or}
use Rattle.std.specs.Ordering.{nat_cmp}
use Rattle.std.specs.Prelude.{◌||◌, String, string_bytes}
use Rattle.std.specs.Str.{bytes_eq}
use Rattle.std.specs.String.{string_cmp}
use Rattle.std.proofs.lemmas.Slice.Eq.{bytes_eq-Decides}
use Rattle.page_pieces.specs.declared.attribute.Attribute.{Attribute}
use Rattle.page_pieces.specs.ReadFirsts.{HasFirsts, first_at}
use Rattle.page_pieces.specs.Repeats.{has_name}
use Rattle.page_pieces.specs.Settings.{plain_text, value_of}

same_text : (xs ys : List ℕ) → bytes_eq xs ys ≡ true → xs ≡ ys
same_text xs ys e = (bytes_eq-Decides xs ys).0 e

or_none : {X : Type 0} (o : Option X) → option_or o None ≡ o
or_none None = refl
or_none (Some x) = refl

-- the value of a name is that of the attribute at its first place
abbrev pub value_at : Option Attribute → Option (List ℕ)
value_at found = option_and_then (λ a. plain_text a.parts) found

abbrev pub attribute_at : List Attribute → Option ℕ → Option Attribute
attribute_at attributes at = option_and_then (slice_get attributes) at

pub value_there : (name : List ℕ) (attributes : List Attribute) → value_of name attributes ≡ value_at (attribute_at attributes (first_at name attributes))
value_there name [] = refl
value_there name (a ∷ attributes) = by_name (bytes_eq a.name name) (value_there name attributes)
  where
    behind : (at : Option ℕ) → attribute_at (a ∷ attributes) (option_map suc at) ≡ attribute_at attributes at
    behind None = refl
    behind (Some i) = refl

    by_name : (b : Bool) → value_of name attributes ≡ value_at (attribute_at attributes (first_at name attributes))
        → cond b (plain_text a.parts) (value_of name attributes) ≡ value_at (attribute_at (a ∷ attributes) (cond b (Some zero) (option_map suc (first_at name attributes))))
    by_name true e = refl
    by_name false e = e ∙ ap value_at (sym (behind (first_at name attributes)))

-- a name is there where it has a first place
pub name_there : (name : List ℕ) (attributes : List Attribute) → has_name name attributes ≡ is_some (first_at name attributes)
name_there name [] = refl
name_there name (a ∷ attributes) = by_name (bytes_eq a.name name) (first_at name attributes) (name_there name attributes)
  where
    by_name : (b : Bool) (at : Option ℕ) → has_name name attributes ≡ is_some at → (b || has_name name attributes) ≡ is_some (cond b (Some zero) (option_map suc at))
    by_name true at e = refl
    by_name false None e = e
    by_name false (Some i) e = e

-- the first place among these and one more
first_more : (name : List ℕ) (all : List Attribute) (a : Attribute) → first_at name (all ++ a ∷ []) ≡ option_or (first_at name all) (cond (bytes_eq a.name name) (Some (length all)) None)
first_more name [] a = refl
first_more name (b ∷ all) a = by_name (bytes_eq b.name name) (bytes_eq a.name name) (first_at name (all ++ a ∷ [])) (first_at name all) (first_more name all a)
  where
    by_name : (b c : Bool) (more first : Option ℕ) → more ≡ option_or first (cond c (Some (length all)) None)
        → cond b (Some zero) (option_map suc more) ≡ option_or (cond b (Some zero) (option_map suc first)) (cond c (Some (suc (length all))) None)
    by_name true c more first e = refl
    by_name false true more None e = ap (option_map suc) e
    by_name false false more None e = ap (option_map suc) e
    by_name false c more (Some i) e = ap (option_map suc) e

-- no name was met
pub firsts_none : {A : Type 0} (firsts : BTreeMap (String A) ℕ) → IsEmpty firsts → HasFirsts firsts []
firsts_none firsts empty name = ap (lookup (is_at (λ k. slice_cmp nat_cmp name (string_bytes k)))) empty

-- a map that has where the first of each name stands has it with one more, where its name is new
pub firsts_more : {A : Type 0} (old new : BTreeMap (String A) ℕ) (key : String A) (i : ℕ) (before : List Attribute) (a : Attribute) → length before ≡ i → string_bytes key ≡ a.name → is_some (get_by_text old a.name) ≡ false
    → Updates string_cmp old new key (Some i) → HasFirsts old before → HasFirsts new (before ++ a ∷ [])
firsts_more old new key i before a at key_is absent updates has name =
    btree_map_updates_text (string_bytes key) old new (Some i) updates name
    ∙ (ap (λ k. cond (bytes_eq k name) (Some i) (get_by_text old name)) key_is
    ∙ (by_name (bytes_eq a.name name) refl
    ∙ (ap (λ n. option_or (first_at name before) (cond (bytes_eq a.name name) (Some n) None)) (sym at) ∙ sym (first_more name before a))))
  where
    none : bytes_eq a.name name ≡ true → first_at name before ≡ None
    none e = nothing (first_at name before) (ap is_some (sym (has name)) ∙ (ap (λ n. is_some (get_by_text old n)) (sym (same_text a.name name e)) ∙ absent))
      where
        nothing : (o : Option ℕ) → is_some o ≡ false → o ≡ None
        nothing None e = refl
        nothing (Some j) e = cc

    by_name : (b : Bool) → bytes_eq a.name name ≡ b → cond b (Some i) (get_by_text old name) ≡ option_or (first_at name before) (cond b (Some i) None)
    by_name true e = sym (ap (λ o. option_or o (Some i)) (none e))
    by_name false e = has name ∙ sym (or_none (first_at name before))

-- and where it isn't
pub firsts_still : {A : Type 0} (firsts : BTreeMap (String A) ℕ) (before : List Attribute) (a : Attribute) → is_some (get_by_text firsts a.name) ≡ true → HasFirsts firsts before → HasFirsts firsts (before ++ a ∷ [])
firsts_still firsts before a there has name = has name ∙ (by_name (bytes_eq a.name name) refl ∙ sym (first_more name before a))
  where
    some : bytes_eq a.name name ≡ true → is_some (first_at name before) ≡ true
    some e = ap is_some (sym (has name)) ∙ (ap (λ n. is_some (get_by_text firsts n)) (sym (same_text a.name name e)) ∙ there)

    something : (o other : Option ℕ) → is_some o ≡ true → o ≡ option_or o other
    something None other e = cc
    something (Some j) other e = refl

    by_name : (b : Bool) → bytes_eq a.name name ≡ b → first_at name before ≡ option_or (first_at name before) (cond b (Some (length before)) None)
    by_name true e = something (first_at name before) (Some (length before)) (some e)
    by_name false e = sym (or_none (first_at name before))

-- how many stand before one of them
pub front_len : (attributes : List Attribute) (i : ℕ) → i < length attributes → length (take i attributes) ≡ i
front_len attributes i within = length-take-le i attributes (omega (arith, within))
