-- Looking for the end of a head from a place on finds what looking through all bytes finds.
use Rattle.std.proofs.Common.{◌≡◌, ℕ, ◌+◌, ◌-◌, ◌<◌, ◌≤◌, Bool, true, false, cond, ◌&&◌, nat_eq, max, List, [], ◌∷◌, ◌++◌, length, take, drop, Option, Some, None, suc, zero, refl, sym, ap, ◌∙◌, arith, inl, inr, length-append, append_assoc}
use Rattle.std.specs.List.{starts_with}
use Rattle.std.specs.Option.{option_map}
use Rattle.std.specs.Str.{bytes_eq}
use Rattle.std.proofs.lemmas.List.{append-nil, drop-append-le, drop-drop, take-append-le, length-drop, take_all}
use Rattle.std.proofs.lemmas.Bool.{cases_lt}
use Rattle.http_in.specs.declared.scan.Scan.{Scan}
use Rattle.http_in.specs.declared.scan.Scan.TheVariants.{Pairs, Head}
use Rattle.http_in.specs.HeadEnd.{empty_line, skip_pairs, through_empty_line, head_len}
use Rattle.http_in.specs.Scan.{looked, end_behind, HasLooked}
use Rattle.http_in.proofs.HeadEnds.{mapped, found_ends, found_fits, found_grows, skip_grows, skipped_fits}

-- two fronts left out
drop_both : (bytes : List ℕ) (a b c : ℕ) → a + b ≡ c → drop b (drop a bytes) ≡ drop c bytes
drop_both bytes a b c sum = drop-drop b a bytes ∙ ap (λ n. drop n bytes) sum

-- two shifts of a place
shifted : (place : Option ℕ) (a b c : ℕ) → a + b ≡ c → option_map (λ n. n + a) (option_map (λ n. n + b) place) ≡ option_map (λ n. n + c) place
shifted None a b c sum = refl
shifted (Some n) a b c sum = ap Some (omega arith)

-- shifts by the same number
shift_is : (place : Option ℕ) (a b : ℕ) → a ≡ b → option_map (λ n. n + a) place ≡ option_map (λ n. n + b) place
shift_is place a b same = ap (λ k. option_map (λ n. n + k) place) same

-- no shift
unshifted : (place : Option ℕ) → option_map (λ n. n + 0) place ≡ place
unshifted None = refl
unshifted (Some n) = ap Some (omega arith)

-- at first nothing was looked through
pub nothing_looked : (bytes : List ℕ) → HasLooked (Pairs 0) bytes
nothing_looked bytes = record { within = omega arith; same = λ more. sym (unshifted (head_len (bytes ++ more))) }

-- what was looked through was so where more bytes follow
pub looked_grows : (scan : Scan) (bytes more : List ℕ) → HasLooked scan bytes → HasLooked scan (bytes ++ more)
looked_grows scan bytes more has = record {
  within = omega (arith, length-append bytes more, has.within);
  same = λ further.
      ap head_len (append_assoc bytes more further) ∙ has.same (more ++ further)
      ∙ ap (end_behind scan) (sym (append_assoc (drop (looked scan) bytes) more further) ∙ ap (λ rest. rest ++ further) (sym (drop-append-le (looked scan) bytes more has.within)));
}

-- a pair at the front belongs to the head
pair_counts : (b c : ℕ) (bytes : List ℕ) → ((nat_eq b 13) && (nat_eq c 10)) ≡ true → head_len (b ∷ c ∷ bytes) ≡ option_map (λ n. n + 2) (head_len bytes)
pair_counts b c bytes pair =
    let skipped : skip_pairs (b ∷ c ∷ bytes) ≡ skip_pairs bytes = rw pair refl in
    let size : ℕ = length (b ∷ c ∷ bytes) in
    ap (λ rest. option_map (λ n. n + (size - length rest)) (through_empty_line rest)) skipped
    ∙ sym (shifted (through_empty_line (skip_pairs bytes)) 2 (length bytes - length (skip_pairs bytes)) (size - length (skip_pairs bytes)) (omega (arith, skipped_fits bytes)))

-- what stands behind the pairs at the front
pub skipped_is : (bytes : List ℕ) → drop (length bytes - length (skip_pairs bytes)) bytes ≡ skip_pairs bytes
skipped_is [] = refl
skipped_is (b ∷ []) = refl
skipped_is (b ∷ c ∷ bytes) = go (skipped_is bytes) ((nat_eq b 13) && (nat_eq c 10))
  where
    go : drop (length bytes - length (skip_pairs bytes)) bytes ≡ skip_pairs bytes → (test : Bool)
        → drop (length (b ∷ c ∷ bytes) - length (cond test (skip_pairs bytes) (b ∷ c ∷ bytes))) (b ∷ c ∷ bytes) ≡ cond test (skip_pairs bytes) (b ∷ c ∷ bytes)
    go further true =
        let more : length (b ∷ c ∷ bytes) - length (skip_pairs bytes) ≡ suc (suc (length bytes - length (skip_pairs bytes))) = omega (arith, skipped_fits bytes) in
        ap (λ n. drop n (b ∷ c ∷ bytes)) more ∙ further
    go further false =
        let none : length (b ∷ c ∷ bytes) - length (b ∷ c ∷ bytes) ≡ 0 = omega arith in
        ap (λ n. drop n (b ∷ c ∷ bytes)) none

-- the pairs at the front belong to the head
pub pairs_count : (bytes more : List ℕ) → head_len (bytes ++ more) ≡ option_map (λ n. n + (length bytes - length (skip_pairs bytes))) (head_len (skip_pairs bytes ++ more))
pairs_count [] more = sym (unshifted (head_len more))
pairs_count (b ∷ []) more = sym (unshifted (head_len (b ∷ more)))
pairs_count (b ∷ c ∷ bytes) more = go (pairs_count bytes more) ((nat_eq b 13) && (nat_eq c 10)) refl
  where
    go : head_len (bytes ++ more) ≡ option_map (λ n. n + (length bytes - length (skip_pairs bytes))) (head_len (skip_pairs bytes ++ more))
        → (test : Bool) → ((nat_eq b 13) && (nat_eq c 10)) ≡ test
        → head_len (b ∷ c ∷ (bytes ++ more)) ≡ option_map (λ n. n + (length (b ∷ c ∷ bytes) - length (cond test (skip_pairs bytes) (b ∷ c ∷ bytes)))) (head_len (cond test (skip_pairs bytes) (b ∷ c ∷ bytes) ++ more))
    go further true pair =
        pair_counts b c (bytes ++ more) pair ∙ ap (option_map (λ n. n + 2)) further
        ∙ shifted (head_len (skip_pairs bytes ++ more)) 2 _ (length (b ∷ c ∷ bytes) - length (skip_pairs bytes)) (omega (arith, skipped_fits bytes))
    go further false none =
        let place : Option ℕ = head_len (b ∷ c ∷ (bytes ++ more)) in
        sym (shift_is place (length (b ∷ c ∷ bytes) - length (b ∷ c ∷ bytes)) 0 (omega arith) ∙ unshifted place)

-- where the head has begun, its end is that of the first empty line
pub head_begins : (bytes more : List ℕ) → 2 ≤ length (skip_pairs bytes)
    → head_len (bytes ++ more) ≡ option_map (λ n. n + (length bytes - length (skip_pairs bytes))) (through_empty_line (skip_pairs bytes ++ more))
head_begins bytes more long =
    let skipped = skip_grows bytes more long in
    rw skipped (shift_is (through_empty_line (skip_pairs bytes ++ more)) _ _ (omega (arith, length-append bytes more, length-append (skip_pairs bytes) more)))

-- a shift finds nothing where nothing was found
unmapped : (place : Option ℕ) → option_map (λ n. n + 1) place ≡ None → place ≡ None
unmapped None none = refl
unmapped (Some n) none = absurd (cc)

-- where no empty line stands, none begins before the last three bytes, whatever bytes follow
pub later_line : (bytes more : List ℕ) (k : ℕ) → k ≤ length bytes - 3 → through_empty_line bytes ≡ None
    → through_empty_line (bytes ++ more) ≡ option_map (λ n. n + k) (through_empty_line (drop k bytes ++ more))
later_line bytes more zero early none = sym (unshifted (through_empty_line (bytes ++ more)))
later_line [] more (suc k) early none = absurd (omega arith)
later_line (b ∷ bytes) more (suc k) early none = go (λ e. later_line bytes more k (omega arith) e) (starts_with nat_eq (b ∷ bytes) empty_line) refl none
  where
    same : starts_with nat_eq (b ∷ (bytes ++ more)) empty_line ≡ starts_with nat_eq (b ∷ bytes) empty_line
    same = ap (λ front. bytes_eq empty_line front) (take-append-le 4 (b ∷ bytes) more (omega arith))

    go : (through_empty_line bytes ≡ None → through_empty_line (bytes ++ more) ≡ option_map (λ n. n + k) (through_empty_line (drop k bytes ++ more)))
        → (test : Bool) → starts_with nat_eq (b ∷ bytes) empty_line ≡ test
        → cond test (Some 4) (option_map (λ n. n + 1) (through_empty_line bytes)) ≡ None
        → through_empty_line (b ∷ (bytes ++ more)) ≡ option_map (λ n. n + suc k) (through_empty_line (drop k bytes ++ more))
    go further true is none = absurd (cc)
    go further false is none =
        rw (same ∙ is) (ap (option_map (λ n. n + 1)) (further (unmapped (through_empty_line bytes) none)) ∙ shifted (through_empty_line (drop k bytes ++ more)) 1 k (suc k) (omega arith))

-- what stands behind so many bytes, taken whole
pub rest_is : (bytes : List ℕ) (at : ℕ) → take (length bytes - at) (drop at bytes) ≡ drop at bytes
rest_is bytes at = take_all (length bytes - at) (drop at bytes) (omega (arith, length-drop at bytes))

-- where the head ends, by what is found from the place on
pub end_found : (bytes : List ℕ) (at : ℕ) (found : Option ℕ) → HasLooked (Head at) bytes → found ≡ through_empty_line (take (length bytes - at) (drop at bytes))
    → head_len bytes ≡ option_map (λ n. n + at) found
end_found bytes at found has is =
    ap head_len (sym (append-nil bytes)) ∙ has.same [] ∙ ap (λ rest. option_map (λ n. n + at) (through_empty_line rest)) (append-nil (drop at bytes) ∙ sym (rest_is bytes at))
    ∙ ap (option_map (λ n. n + at)) (sym is)

-- where no empty line stands, the next look begins three bytes before the end
pub looks_on : (bytes : List ℕ) (at next : ℕ) → HasLooked (Head at) bytes → None ≡ through_empty_line (take (length bytes - at) (drop at bytes)) → next ≡ max at (length bytes - 3)
    → HasLooked (Head next) bytes
looks_on bytes at next has none is = record {
  within = omega (arith, is, has.within);
  same = λ more.
      let further : next - at ≤ length (drop at bytes) - 3 = omega (arith, is, length-drop at bytes, has.within) in
      let sum : at + (next - at) ≡ next = omega (arith, is) in
      has.same more ∙ ap (option_map (λ n. n + at)) (later_line (drop at bytes) more (next - at) further (ap through_empty_line (sym (rest_is bytes at)) ∙ sym none))
      ∙ shifted (through_empty_line (drop (next - at) (drop at bytes) ++ more)) at (next - at) next sum
      ∙ ap (λ rest. option_map (λ n. n + next) (through_empty_line (rest ++ more))) (drop_both bytes at (next - at) next sum);
}

-- the place where the head begins, by the pairs behind the place that was looked through
begins_at : (bytes rest : List ℕ) (at : ℕ) → at ≤ length bytes → rest ≡ skip_pairs (drop at bytes) → at + (length (drop at bytes) - length (skip_pairs (drop at bytes))) ≡ length bytes - length rest
begins_at bytes rest at within is = omega (arith, ap length is, length-drop at bytes, skipped_fits (drop at bytes))

-- what stands there
begins_with : (bytes rest : List ℕ) (at : ℕ) → at ≤ length bytes → rest ≡ skip_pairs (drop at bytes) → skip_pairs (drop at bytes) ≡ drop (length bytes - length rest) bytes
begins_with bytes rest at within is =
    sym (skipped_is (drop at bytes)) ∙ drop_both bytes at (length (drop at bytes) - length (skip_pairs (drop at bytes))) (length bytes - length rest) (begins_at bytes rest at within is)

-- only pairs stand there, and at most one byte
pub only_pairs : (bytes rest : List ℕ) (at : ℕ) → HasLooked (Pairs at) bytes → rest ≡ skip_pairs (drop at bytes) → HasLooked (Pairs (length bytes - length rest)) bytes
only_pairs bytes rest at has is = record {
  within = omega arith;
  same = λ more.
      has.same more ∙ ap (option_map (λ n. n + at)) (pairs_count (drop at bytes) more)
      ∙ shifted (head_len (skip_pairs (drop at bytes) ++ more)) at _ (length bytes - length rest) (begins_at bytes rest at has.within is)
      ∙ ap (λ behind. option_map (λ n. n + (length bytes - length rest)) (head_len (behind ++ more))) (begins_with bytes rest at has.within is);
}

-- the head has begun
pub begun : (bytes rest : List ℕ) (at : ℕ) → HasLooked (Pairs at) bytes → rest ≡ skip_pairs (drop at bytes) → 2 ≤ length rest → HasLooked (Head (length bytes - length rest)) bytes
begun bytes rest at has is long = record {
  within = omega arith;
  same = λ more.
      has.same more ∙ ap (option_map (λ n. n + at)) (head_begins (drop at bytes) more (omega (arith, ap length is)))
      ∙ shifted (through_empty_line (skip_pairs (drop at bytes) ++ more)) at _ (length bytes - length rest) (begins_at bytes rest at has.within is)
      ∙ ap (λ behind. option_map (λ n. n + (length bytes - length rest)) (through_empty_line (behind ++ more))) (begins_with bytes rest at has.within is);
}

-- a head has at least four bytes
pub head_is_long : (bytes : List ℕ) (n : ℕ) → head_len bytes ≡ Some n → 4 ≤ length bytes
head_is_long bytes n found =
    let m = mapped (λ n. n + (length bytes - length (skip_pairs bytes))) (through_empty_line (skip_pairs bytes)) n found in
    omega (arith, found_fits (skip_pairs bytes) m.0 m.1, skipped_fits bytes)

-- where less than two bytes stand behind the pairs, no head ends
pub no_head_yet : (bytes rest : List ℕ) (at : ℕ) → HasLooked (Pairs at) bytes → rest ≡ skip_pairs (drop at bytes) → length rest < 2 → head_len bytes ≡ None
no_head_yet bytes rest at has is short =
    let looked = only_pairs bytes rest at has is in
    let place : ℕ = length bytes - length rest in
    let all : head_len bytes ≡ option_map (λ n. n + place) (head_len (drop place bytes ++ [])) = ap head_len (sym (append-nil bytes)) ∙ looked.same [] in
    go (head_len (drop place bytes ++ [])) refl all
  where
    go : (found : Option ℕ) → head_len (drop (length bytes - length rest) bytes ++ []) ≡ found → head_len bytes ≡ option_map (λ n. n + (length bytes - length rest)) found → head_len bytes ≡ None
    go None is_none all = all
    go (Some m) found all =
        let behind : length (drop (length bytes - length rest) bytes ++ []) ≡ length rest
        = omega (arith, length-append {A = ℕ}, length-drop (length bytes - length rest) bytes, ap length is, length-drop at bytes, skipped_fits (drop at bytes), has.within) in
        absurd (omega (arith, head_is_long (drop (length bytes - length rest) bytes ++ []) m found, behind))

-- an empty line ends behind four bytes
line_is_long : (bytes : List ℕ) (n : ℕ) → through_empty_line bytes ≡ Some n → 4 ≤ n
line_is_long [] n found = absurd (cc)
line_is_long (b ∷ bytes) n found = go (λ m e. line_is_long bytes m e) (starts_with nat_eq (b ∷ bytes) empty_line) found
  where
    go : ((m : ℕ) → through_empty_line bytes ≡ Some m → 4 ≤ m) → (test : Bool)
        → cond test (Some 4) (option_map (λ n. n + 1) (through_empty_line bytes)) ≡ Some n → 4 ≤ n
    go further true found = let four : 4 ≡ n = cc in omega arith
    go further false found =
        let m = mapped (λ n. n + 1) (through_empty_line bytes) n found in
        omega (arith, further m.0 m.1, m.2)

-- from where an empty line begins it is found at once, whatever bytes follow
found_again : (bytes more : List ℕ) (n : ℕ) → through_empty_line bytes ≡ Some n → through_empty_line (drop (n - 4) bytes ++ more) ≡ Some 4
found_again [] more n found = absurd (cc)
found_again (b ∷ bytes) more n found = go (λ m e. found_again bytes more m e) (starts_with nat_eq (b ∷ bytes) empty_line) refl found
  where
    go : ((m : ℕ) → through_empty_line bytes ≡ Some m → through_empty_line (drop (m - 4) bytes ++ more) ≡ Some 4)
        → (test : Bool) → starts_with nat_eq (b ∷ bytes) empty_line ≡ test
        → cond test (Some 4) (option_map (λ n. n + 1) (through_empty_line bytes)) ≡ Some n
        → through_empty_line (drop (n - 4) (b ∷ bytes) ++ more) ≡ Some 4
    go further true is found =
        let four : 4 ≡ n = cc in
        let here : n - 4 ≡ 0 = omega arith in
        ap (λ k. through_empty_line (drop k (b ∷ bytes) ++ more)) here ∙ found_grows (b ∷ bytes) more 4 (rw is refl)
    go further false is found =
        let m = mapped (λ n. n + 1) (through_empty_line bytes) n found in
        let behind : n - 4 ≡ suc (m.0 - 4) = omega (arith, line_is_long bytes m.0 m.1, m.2) in
        ap (λ k. through_empty_line (drop k (b ∷ bytes) ++ more)) behind ∙ further m.0 m.1

-- where the head's end was found, the next look begins at the empty line
pub looks_again : (bytes : List ℕ) (at len next : ℕ) → HasLooked (Head at) bytes → Some len ≡ through_empty_line (take (length bytes - at) (drop at bytes)) → next ≡ at + len - 4
    → HasLooked (Head next) bytes
looks_again bytes at len next has found is =
    let behind = sym (found ∙ ap through_empty_line (rest_is bytes at)) in
    let long = line_is_long (drop at bytes) len behind in
    let sum : at + (len - 4) ≡ next = omega (arith, is, long) in
    record {
      within = omega (arith, is, has.within, found_ends (drop at bytes) len behind, length-drop at bytes);
      same = λ more.
          let line = ap (λ rest. through_empty_line (rest ++ more)) (sym (drop_both bytes at (len - 4) next sum)) ∙ found_again (drop at bytes) more len behind in
          let total : len + at ≡ 4 + next = omega (arith, is, long) in
          has.same more ∙ ap (option_map (λ n. n + at)) (found_grows (drop at bytes) more len behind) ∙ ap Some total ∙ sym (ap (option_map (λ n. n + next)) line);
    }

-- a line that more bytes end, ends behind all that were there
line_behind : (bytes more : List ℕ) (n : ℕ) → through_empty_line bytes ≡ None → through_empty_line (bytes ++ more) ≡ Some n → length bytes < n
line_behind bytes more n none found =
    let k : ℕ = length bytes - 3 in
    let m = mapped (λ n. n + k) (through_empty_line (drop k bytes ++ more)) n (sym (later_line bytes more k (omega arith) none) ∙ found) in
    omega (arith, line_is_long (drop k bytes ++ more) m.0 m.1, m.2)

-- nothing is found where a shift finds nothing
unshifted_none : (place : Option ℕ) (k : ℕ) → option_map (λ n. n + k) place ≡ None → place ≡ None
unshifted_none None k none = refl
unshifted_none (Some n) k none = absurd (cc)

-- a head that more bytes end, ends behind all that were there
pub head_behind : (bytes more : List ℕ) (n : ℕ) → head_len bytes ≡ None → head_len (bytes ++ more) ≡ Some n → length bytes < n
head_behind bytes more n none found =
    let skipped : ℕ = length bytes - length (skip_pairs bytes) in
    elim (cases_lt (length (skip_pairs bytes)) 2) [
      | inl short ↦
          let m = mapped (λ n. n + skipped) (head_len (skip_pairs bytes ++ more)) n (sym (pairs_count bytes more) ∙ found) in
          let k = mapped (λ n. n + (length (skip_pairs bytes ++ more) - length (skip_pairs (skip_pairs bytes ++ more)))) (through_empty_line (skip_pairs (skip_pairs bytes ++ more))) m.0 m.1 in
          omega (arith, line_is_long (skip_pairs (skip_pairs bytes ++ more)) k.0 k.1, k.2, m.2, skipped_fits bytes)
      | inr long ↦
          let m = mapped (λ n. n + skipped) (through_empty_line (skip_pairs bytes ++ more)) n (sym (head_begins bytes more long) ∙ found) in
          omega (arith, line_behind (skip_pairs bytes) more m.0 (unshifted_none (through_empty_line (skip_pairs bytes)) skipped none) m.1, m.2, skipped_fits bytes)
    ]
