-- A text that slashes cut into names is a path in normal form.
use Rattle.std.proofs.Common.{◌≡◌, ℕ, ◌≤◌, Bool, true, false, cond, ◌||◌, List, [], ◌∷◌, length, drop, refl, sym, ap, ◌∙◌, arith}
use borrow.Author.Tests.{eqb-true}
use Rattle.std.specs.List.{list_any, onto_first, slice_split}
use Rattle.std.proofs.lemmas.List.Splits.{length-slice_split}
use Rattle.pg_text.specs.Normal.{IsNormal, is_bad_byte, is_no_name, is_slash, max_path_bytes, path_of}
use Rattle.pg_text.proofs.SegmentLemmas.{neither, none_passes, unslashed}

-- what no byte of a text passes, none of a part does
clean_parts : (p : ℕ → Bool) (text : List ℕ) → list_any p text ≡ false → list_any (list_any p) (slice_split is_slash text) ≡ false
clean_parts p [] none = refl
clean_parts p (b ∷ text) none =
    let both = neither (p b) (list_any p text) none in
    go (slice_split is_slash text) (is_slash b) both.0 (clean_parts p text both.1)
  where
    go : (parts : List (List ℕ)) (here : Bool) → p b ≡ false → list_any (list_any p) parts ≡ false → list_any (list_any p) (cond here ([] ∷ parts) (onto_first b parts)) ≡ false
    go parts true clean rest = rest
    go [] false clean rest = rw clean refl
    go (part ∷ parts) false clean rest = rw clean rest

-- the parts of a text, each behind a slash, are a slash and the text
joined : (text : List ℕ) → path_of (slice_split is_slash text) ≡ 47 ∷ text
joined [] = refl
joined (b ∷ text) = go (slice_split is_slash text) (is_slash b) refl (joined text)
  where
    go : (parts : List (List ℕ)) (here : Bool) → is_slash b ≡ here → path_of parts ≡ 47 ∷ text → path_of (cond here ([] ∷ parts) (onto_first b parts)) ≡ 47 ∷ b ∷ text
    go parts true is rest = ap (λ xs. 47 ∷ xs) (rest ∙ ap (λ c. c ∷ text) (sym (eqb-true b 47 is)))
    go [] false is rest = absurd (cc)
    go (part ∷ parts) false is rest = ap (λ xs. 47 ∷ b ∷ xs) (ap (drop 1) rest)

-- a slash, and names behind it that slashes part
pub normal_text : (text names : List ℕ) → text ≡ 47 ∷ names → length text ≤ max_path_bytes → list_any is_bad_byte names ≡ false → list_any is_no_name (slice_split is_slash names) ≡ false → IsNormal text
normal_text text names begins fits clean named =
    let parts : List (List ℕ) = slice_split is_slash names in
    record {
      names = parts;
      some = omega (arith, length-slice_split is_slash names);
      good = none_passes is_no_name (λ name. list_any is_slash name || list_any is_bad_byte name) parts named
          (none_passes (list_any is_slash) (list_any is_bad_byte) parts (unslashed names) (clean_parts is_bad_byte names clean));
      is = begins ∙ sym (joined names);
      short = fits;
    }
