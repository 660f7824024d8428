-- Where a head ends doesn't depend on the bytes that come later.
use Rattle.std.proofs.Common.{◌≡◌, ℕ, ◌+◌, ◌-◌, ◌≤◌, Bool, true, false, cond, ◌&&◌, nat_eq, List, [], ◌∷◌, ◌++◌, length, take, Option, Some, None, refl, ap, ◌∙◌, arith, inl, inr, length-append}
use Rattle.std.specs.List.{starts_with}
use Rattle.std.specs.Option.{option_map}
use Rattle.std.specs.Str.{bytes_eq}
use Rattle.std.proofs.lemmas.List.{length-take, take-append-le, take_all}
use Rattle.std.proofs.Math.Seq.{take-append-add}
use Rattle.std.proofs.lemmas.Bool.{cases_lt}
use Rattle.std.proofs.lemmas.Slice.Eq.{bytes_eq-Decides}
use Rattle.http_in.specs.declared.limits.TheConstants.{MAX_HEAD_BYTES}
use Rattle.http_in.specs.HeadEnd.{empty_line, skip_pairs, through_empty_line, head_len, front_of}

-- what is mapped to a value was a value
pub mapped : (f : ℕ → ℕ) (o : Option ℕ) (n : ℕ) → option_map f o ≡ Some n → (m : ℕ) × (o ≡ Some m) × (f m ≡ n)
mapped f None n e = absurd (cc)
mapped f (Some m) n e = (m, refl, cc)

-- an empty line has four bytes
empty_line_fits : (bytes : List ℕ) → starts_with nat_eq bytes empty_line ≡ true → 4 ≤ length bytes
empty_line_fits bytes at =
    let same : empty_line ≡ take 4 bytes = (bytes_eq-Decides empty_line (take 4 bytes)).0 at in
    omega (arith, length-take 4 bytes, ap length same)

-- bytes with an empty line in them are at least four
pub found_fits : (bytes : List ℕ) (n : ℕ) → through_empty_line bytes ≡ Some n → 4 ≤ length bytes
found_fits [] n found = absurd (cc)
found_fits (b ∷ bytes) n found = go (λ m e. found_fits bytes m e) (starts_with nat_eq (b ∷ bytes) empty_line) refl found
  where
    go : ((m : ℕ) → through_empty_line bytes ≡ Some m → 4 ≤ length bytes) → (test : Bool) → starts_with nat_eq (b ∷ bytes) empty_line ≡ test
        → cond test (Some 4) (option_map (λ n. n + 1) (through_empty_line bytes)) ≡ Some n → 4 ≤ length (b ∷ bytes)
    go further true is found = empty_line_fits (b ∷ bytes) is
    go further false is found =
        let m = mapped (λ n. n + 1) (through_empty_line bytes) n found in
        let fits : 4 ≤ length bytes = further m.0 m.1 in
        omega arith

-- more bytes behind don't change where the first empty line ends
pub found_grows : (bytes more : List ℕ) (n : ℕ) → through_empty_line bytes ≡ Some n → through_empty_line (bytes ++ more) ≡ Some n
found_grows [] more n found = absurd (cc)
found_grows (b ∷ bytes) more n found = go (λ m e. found_grows bytes more m e) (starts_with nat_eq (b ∷ bytes) empty_line) refl found
  where
    same : starts_with nat_eq (b ∷ (bytes ++ more)) empty_line ≡ starts_with nat_eq (b ∷ bytes) empty_line
    same = ap (λ front. bytes_eq empty_line front) (take-append-le 4 (b ∷ bytes) more (found_fits (b ∷ bytes) n found))

    go : ((m : ℕ) → through_empty_line bytes ≡ Some m → through_empty_line (bytes ++ more) ≡ Some m)
        → (test : Bool) → starts_with nat_eq (b ∷ bytes) empty_line ≡ test
        → cond test (Some 4) (option_map (λ n. n + 1) (through_empty_line bytes)) ≡ Some n
        → through_empty_line (b ∷ (bytes ++ more)) ≡ Some n
    go further true is found = rw (same ∙ is) found
    go further false is found =
        let m = mapped (λ n. n + 1) (through_empty_line bytes) n found in
        rw (same ∙ is, further m.0 m.1) (ap Some m.2)

-- more bytes behind don't change what is skipped, where two bytes stand after it
pub skip_grows : (bytes more : List ℕ) → 2 ≤ length (skip_pairs bytes) → skip_pairs (bytes ++ more) ≡ skip_pairs bytes ++ more
skip_grows [] more long = absurd (omega arith)
skip_grows (b ∷ []) more long = absurd (omega arith)
skip_grows (b ∷ c ∷ bytes) more long = go (λ rest. skip_grows bytes more rest) ((nat_eq b 13) && (nat_eq c 10)) long
  where
    go : (2 ≤ length (skip_pairs bytes) → skip_pairs (bytes ++ more) ≡ skip_pairs bytes ++ more)
        → (test : Bool) → 2 ≤ length (cond test (skip_pairs bytes) (b ∷ c ∷ bytes))
        → cond test (skip_pairs (bytes ++ more)) (b ∷ c ∷ (bytes ++ more)) ≡ cond test (skip_pairs bytes) (b ∷ c ∷ bytes) ++ more
    go further true long = further long
    go further false long = refl

-- more bytes behind don't change where the head ends
pub head_grows : (bytes more : List ℕ) (n : ℕ) → head_len bytes ≡ Some n → head_len (bytes ++ more) ≡ Some n
head_grows bytes more n found =
    let m = mapped (λ n. n + (length bytes - length (skip_pairs bytes))) (through_empty_line (skip_pairs bytes)) n found in
    let fits = found_fits (skip_pairs bytes) m.0 m.1 in
    let skipped = skip_grows bytes more (omega arith) in
    let grown = found_grows (skip_pairs bytes) more m.0 m.1 in
    let behind : length (bytes ++ more) - length (skip_pairs bytes ++ more) ≡ length bytes - length (skip_pairs bytes)
    = omega (arith, length-append bytes more, length-append (skip_pairs bytes) more) in
    rw (skipped, grown, behind) (ap Some m.2)

-- the same of a head that ends among the first bytes
first_grows : (limit : ℕ) (bytes more : List ℕ) (n : ℕ) → head_len (take limit bytes) ≡ Some n → head_len (take limit (bytes ++ more)) ≡ Some n
first_grows limit bytes more n found =
    elim (cases_lt (length bytes) limit) [
      | inl shorter ↦
          let room : limit ≡ length bytes + (limit - length bytes) = omega arith in
          let cut : take limit (bytes ++ more) ≡ bytes ++ take (limit - length bytes) more = ap (λ k. take k (bytes ++ more)) room ∙ take-append-add bytes more (limit - length bytes) in
          rw cut (head_grows bytes (take (limit - length bytes) more) n (rw (take_all limit bytes (omega arith)) at found))
      | inr longer ↦ rw (take-append-le limit bytes more longer) found
    ]

-- a head that ends in time does so too where more bytes follow
pub front_grows : (bytes more : List ℕ) (n : ℕ) → head_len (front_of bytes) ≡ Some n → head_len (front_of (bytes ++ more)) ≡ Some n
unfolding front_of
front_grows bytes more n found = first_grows MAX_HEAD_BYTES bytes more n found

-- of 16,384 bytes or more, those that follow can't belong to the head
pub front_full : (bytes more : List ℕ) → MAX_HEAD_BYTES ≤ length bytes → front_of (bytes ++ more) ≡ front_of bytes
unfolding front_of
front_full bytes more long = take-append-le MAX_HEAD_BYTES bytes more long

-- the first empty line ends within the bytes
pub found_ends : (bytes : List ℕ) (n : ℕ) → through_empty_line bytes ≡ Some n → n ≤ length bytes
found_ends [] n found = absurd (cc)
found_ends (b ∷ bytes) n found = go (λ m e. found_ends bytes m e) (starts_with nat_eq (b ∷ bytes) empty_line) refl found
  where
    go : ((m : ℕ) → through_empty_line bytes ≡ Some m → m ≤ length bytes)
        → (test : Bool) → starts_with nat_eq (b ∷ bytes) empty_line ≡ test
        → cond test (Some 4) (option_map (λ n. n + 1) (through_empty_line bytes)) ≡ Some n → n ≤ length (b ∷ bytes)
    go further true is found = let four : 4 ≡ n = cc in omega (arith, empty_line_fits (b ∷ bytes) is)
    go further false is found =
        let m = mapped (λ n. n + 1) (through_empty_line bytes) n found in
        omega (arith, further m.0 m.1, m.2)

-- what stands after the pairs is no longer than all
pub skipped_fits : (bytes : List ℕ) → length (skip_pairs bytes) ≤ length bytes
skipped_fits [] = omega arith
skipped_fits (b ∷ []) = omega arith
skipped_fits (b ∷ c ∷ bytes) = go (skipped_fits bytes) ((nat_eq b 13) && (nat_eq c 10))
  where
    go : length (skip_pairs bytes) ≤ length bytes → (test : Bool) → length (cond test (skip_pairs bytes) (b ∷ c ∷ bytes)) ≤ length (b ∷ c ∷ bytes)
    go shorter true = omega arith
    go shorter false = omega arith

-- a head ends within the bytes
pub head_fits : (bytes : List ℕ) (n : ℕ) → head_len (front_of bytes) ≡ Some n → n ≤ length bytes
unfolding front_of
head_fits bytes n found =
    let front : List ℕ = take MAX_HEAD_BYTES bytes in
    let m = mapped (λ n. n + (length front - length (skip_pairs front))) (through_empty_line (skip_pairs front)) n found in
    omega (arith, found_ends (skip_pairs front) m.0 m.1, skipped_fits front, length-take MAX_HEAD_BYTES bytes, m.2)
