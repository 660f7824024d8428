-- A path in normal form stands for itself.
use Rattle.std.proofs.Common.{◌≡◌, ℕ, ◌<◌, ◌≤◌, Bool, true, false, ◌||◌, ◌==◌, nat_lt, List, [], ◌∷◌, ◌++◌, length, drop, Option, Ok, refl, sym, ap, subst, ◌∙◌, arith}
use borrow.Author.Tests.{ltb-true, ne_eqb}
use Rattle.std.specs.List.{list_any, slice_split}
use Rattle.std.specs.Str.{bytes_eq}
use Rattle.std.proofs.lemmas.List.{append-nil}
use Rattle.pg_text.specs.Normal.{is_bad_byte, is_bad_name, is_slash, max_path_bytes, path_of}
use Rattle.pg_text.specs.Path.{NormalStands, kept, resolved, segments}
use Rattle.pg_text.proofs.SegmentLemmas.{neither}

-- what a name that can stand in a path isn't, none of such names is
none_of : (p : List ℕ → Bool) → ((name : List ℕ) → is_bad_name name ≡ false → p name ≡ false) → (names : List (List ℕ)) → list_any is_bad_name names ≡ false → list_any p names ≡ false
none_of p isn't [] good = refl
none_of p isn't (name ∷ names) good =
    let parts = neither (is_bad_name name) (list_any is_bad_name names) good in
    rw (isn't name parts.0) (none_of p isn't names parts.1)

abbrev is_dot : List ℕ → Bool
is_dot name = bytes_eq name (46 ∷ [])

abbrev is_up : List ℕ → Bool
is_up name = bytes_eq name (46 ∷ 46 ∷ [])

abbrev is_empty : List ℕ → Bool
is_empty name = length name == 0

-- what a name that can stand in a path isn't
record IsGood (name : List ℕ) : Type 0 where
  some : is_empty name ≡ false
  no_dot : is_dot name ≡ false
  no_up : is_up name ≡ false
  no_slash : list_any is_slash name ≡ false
  clean : list_any is_bad_byte name ≡ false

good : (name : List ℕ) → is_bad_name name ≡ false → IsGood name
good name h =
    let halves = neither (is_empty name || (is_dot name || is_up name)) (list_any is_slash name || list_any is_bad_byte name) h in
    let shape = neither (is_empty name) (is_dot name || is_up name) halves.0 in
    let dots = neither (is_dot name) (is_up name) shape.1 in
    let bytes = neither (list_any is_slash name) (list_any is_bad_byte name) halves.1 in
    record { some = shape.0; no_dot = dots.0; no_up = dots.1; no_slash = bytes.0; clean = bytes.1 }

-- a name before what is cut goes before its first part
name_before : (name rest first : List ℕ) (parts : List (List ℕ)) → list_any is_slash name ≡ false → slice_split is_slash rest ≡ first ∷ parts → slice_split is_slash (name ++ rest) ≡ (name ++ first) ∷ parts
name_before [] rest first parts none is = is
name_before (b ∷ name) rest first parts none is =
    let here = neither (is_slash b) (list_any is_slash name) none in
    rw (here.0, name_before name rest first parts here.1 is) refl

-- the parts of a path between its slashes are its names, behind an empty one
parts_of : (names : List (List ℕ)) → list_any is_bad_name names ≡ false → slice_split is_slash (path_of names) ≡ [] ∷ names
parts_of [] h = refl
parts_of (name ∷ names) h =
    let here = neither (is_bad_name name) (list_any is_bad_name names) h in
    let cut : slice_split is_slash (name ++ path_of names) ≡ name ∷ names =
    name_before name (path_of names) [] names (good name here.0).no_slash (parts_of names here.1) ∙ ap (λ first. first ∷ names) (append-nil name) in
    ap (λ parts. [] ∷ parts) cut

-- such names are all kept
all_kept : (names : List (List ℕ)) → list_any is_bad_name names ≡ false → kept names ≡ record { open_ups = 0; names = names }
all_kept [] h = refl
all_kept (name ∷ names) h =
    let here = neither (is_bad_name name) (list_any is_bad_name names) h in
    let name_is = good name here.0 in
    rw (all_kept names here.1, name_is.no_dot, name_is.no_up) refl

within : (n : ℕ) → n ≤ max_path_bytes → nat_lt max_path_bytes n ≡ false
within n h = go (nat_lt max_path_bytes n) refl
  where
    go : (over : Bool) → nat_lt max_path_bytes n ≡ over → over ≡ false
    go true is = let more = ltb-true max_path_bytes n is in absurd (omega (arith, more, h))
    go false is = refl

-- the names of a path resolve to it
names_resolve : (names : List (List ℕ)) → 0 < length names → list_any is_bad_name names ≡ false → length (path_of names) ≤ max_path_bytes → resolved names ≡ Ok (path_of names)
names_resolve names some h short =
    rw (
      none_of (list_any is_bad_byte) (λ name is. (good name is).clean) names h,
      none_of is_empty (λ name is. (good name is).some) names h,
      all_kept names h,
      ne_eqb (length names) 0 (λ none. omega (arith, none, some)),
      within (length (path_of names)) short,
    ) refl

segments_are : (base : Option (List ℕ)) (names : List (List ℕ)) → 0 < length names → list_any is_bad_name names ≡ false → segments base (path_of names) ≡ names
unfolding segments
segments_are base [] some h = absurd (omega (arith, some))
segments_are base (name ∷ names) some h = ap (drop 1) (parts_of (name ∷ names) h)

pub normal_stands : NormalStands
normal_stands base path normal =
    let names = normal.names in
    let short : length (path_of names) ≤ max_path_bytes = subst (λ p. length p ≤ max_path_bytes) normal.is normal.short in
    subst (λ p. resolved (segments base p) ≡ Ok p) (sym normal.is)
    (ap resolved (segments_are base names normal.some normal.good) ∙ names_resolve names normal.some normal.good short)
