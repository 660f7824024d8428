-- Digits of a number that are written from the last to the first.
use Rattle.std.proofs.Common.{◌≡◌, ◌≢◌, ◌+◌, ◌-◌, ◌<◌, ◌≤◌, ◌/◌, ◌%◌, ◌^◌, ℕ, zero, suc, Bool, true, false, List, [], ◌∷◌, ◌++◌, refl, add-one, arith, ap, ◌∙◌, ◌*◌, length, drop, set}
use Rattle.std.proofs.Math.Nat.{pow-suc}
use Rattle.std.proofs.lemmas.List.{drop-set}
use Rattle.std.specs.Prelude.{◌==◌, if◌then◌else◌}
use Rattle.std.proofs.lemmas.Bool.{eq-eqb, ne_eqb}
use Rattle.std.specs.Fmt.{digits, digits_onto, digit_glyph}

-- what follows the digits stays behind them
pub digits_onto-append : (count base : ℕ) (upper : Bool) (n : ℕ) (onto text : List ℕ) → digits_onto count base upper n (onto ++ text) ≡ digits_onto count base upper n onto ++ text
digits_onto-append zero base upper n onto text = refl
digits_onto-append (suc count) base upper n onto text = go (n / base == 0) (digits_onto-append count base upper (n / base) (digit_glyph upper (n % base) ∷ onto) text)
  where
    go : (last : Bool) → digits_onto count base upper (n / base) (digit_glyph upper (n % base) ∷ (onto ++ text)) ≡ digits_onto count base upper (n / base) (digit_glyph upper (n % base) ∷ onto) ++ text
        → (if last then digit_glyph upper (n % base) ∷ (onto ++ text) else digits_onto count base upper (n / base) (digit_glyph upper (n % base) ∷ (onto ++ text)))
        ≡ (if last then digit_glyph upper (n % base) ∷ onto else digits_onto count base upper (n / base) (digit_glyph upper (n % base) ∷ onto)) ++ text
    go true further = refl
    go false further = further

-- all digits, and a text behind them
pub digits_before : (base : ℕ) (upper : Bool) (n : ℕ) (text : List ℕ) → digits_onto 64 base upper n text ≡ digits base upper n ++ text
unfolding digits
digits_before base upper n text = digits_onto-append 64 base upper n [] text

-- the last digit, where it is the only one that is left
pub last_digit : (count base : ℕ) (upper : Bool) (n : ℕ) (text : List ℕ) → n / base ≡ 0 → digits_onto (count + 1) base upper n text ≡ digit_glyph upper (n % base) ∷ text
last_digit count base upper n text none = rw (add-one, eq-eqb (n / base) 0 none)

-- the last digit, where others stand before it
pub further_digits : (count base : ℕ) (upper : Bool) (n : ℕ) (text : List ℕ) → n / base ≢ 0 → digits_onto (count + 1) base upper n text ≡ digits_onto count base upper (n / base) (digit_glyph upper (n % base) ∷ text)
further_digits count base upper n text some = rw (add-one, ne_eqb (n / base) 0 some)

-- fewer digits are left for what is left
pub fewer : (n count : ℕ) → n < 16 ^ (count + 1) → n / 16 < 16 ^ count
fewer n count small = let next : 16 ^ (count + 1) ≡ 16 ^ count * 16 = rw add-one (pow-suc 16 count) in omega arith

-- a digit that is written before the others
pub digit_written : (line : List ℕ) (at digit : ℕ) → 1 ≤ at → at ≤ length line → drop (at - 1) (set line (at - 1) digit) ≡ digit ∷ drop at line
digit_written line at digit room within =
    drop-set line (at - 1) digit (omega arith) ∙ ap (λ k. digit ∷ drop k line) (let next : at - 1 + 1 ≡ at = omega arith in next)

-- there is room for a number that isn't 0
pub some_room : (n count : ℕ) → n < 16 ^ count → n ≢ 0 → 1 ≤ count
some_room n zero small some = absurd (omega arith)
some_room n (suc count) small some = omega arith
