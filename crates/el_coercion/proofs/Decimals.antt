-- Decimals are told as their grammar has them.
use Rattle.std.proofs.Common.{◌≡◌, ◌==◌, ◌<◌, ◌+◌, ◌&&◌, ◌⊎◌, inl, inr, ℕ, suc, Bool, true, false, cond, nat_lt, List, [], ◌∷◌, ◌++◌, length, take, drop, refl, sym, ap, ◌∙◌, subst, arith}
use borrow.Author.Tests.{ltb-true, lt-ltb, eqb-true, ne_eqb}
use Rattle.std.specs.Bool.{Decides}
use Rattle.std.specs.Char.{is_ascii_digit}
use Rattle.std.specs.List.{list_all}
use Rattle.std.specs.Str.Parse.{without_leading_sign}
use Rattle.std.proofs.lemmas.List.{take-append-drop}
use Rattle.pg_text.specs.Decimals.{AreDigits, IsDecimal, IsDigits, IsExponent, IsSigned, is_exponent_letter, is_point, is_sign, pointed, scaled}
use Rattle.el_coercion.specs.Number.{TellsDecimals, digits_before, is_digits, is_exponent, is_exponent_or_nothing, is_fraction, is_unsigned_decimal, makes_decimal}

both : (a b : Bool) → a && b ≡ true → (a ≡ true) × (b ≡ true)
both true b h = (refl, h)
both false b h = absurd (cc)

-- the digits at the front
front_digits : (bytes : List ℕ) → AreDigits (take (digits_before bytes) bytes)
front_digits [] = tt
front_digits (b ∷ bytes) = go (is_ascii_digit b) refl (front_digits bytes)
  where
    go : (d : Bool) → is_ascii_digit b ≡ d → AreDigits (take (digits_before bytes) bytes) → AreDigits (take (cond d (1 + digits_before bytes) 0) (b ∷ bytes))
    go true is more = let one : suc (digits_before bytes) ≡ 1 + digits_before bytes = omega arith in subst (λ n. AreDigits (take n (b ∷ bytes))) one (is, more)
    go false is more = tt

front_length : (bytes : List ℕ) → length (take (digits_before bytes) bytes) ≡ digits_before bytes
front_length [] = refl
front_length (b ∷ bytes) = go (is_ascii_digit b) (front_length bytes)
  where
    go : (d : Bool) → length (take (digits_before bytes) bytes) ≡ digits_before bytes → length (take (cond d (1 + digits_before bytes) 0) (b ∷ bytes)) ≡ cond d (1 + digits_before bytes) 0
    go true more = let one : suc (digits_before bytes) ≡ 1 + digits_before bytes = omega arith in subst (λ n. length (take n (b ∷ bytes)) ≡ n) one (omega (arith, more))
    go false more = refl

-- what stands behind digits and is no digit ends them
abbrev StopsDigits : List ℕ → Type 0
StopsDigits [] = Unit {0}
StopsDigits (b ∷ bytes) = is_ascii_digit b ≡ false

digits_stop : (whole rest : List ℕ) → AreDigits whole → StopsDigits rest → (digits_before (whole ++ rest) ≡ length whole) × (drop (length whole) (whole ++ rest) ≡ rest)
digits_stop [] [] all stop = (refl, refl)
digits_stop [] (b ∷ rest) all stop = (rw stop refl, refl)
digits_stop (w ∷ whole) rest all stop =
    let more = digits_stop whole rest all.1 stop in
    (rw (all.0, more.0) (omega arith), more.1)

-- digits, as a test and as a fact
all_digits : (bytes : List ℕ) → list_all is_ascii_digit bytes ≡ true → AreDigits bytes
all_digits [] h = tt
all_digits (b ∷ bytes) h = let parts = both (is_ascii_digit b) (list_all is_ascii_digit bytes) h in (parts.0, all_digits bytes parts.1)

digits_all : (bytes : List ℕ) → AreDigits bytes → list_all is_ascii_digit bytes ≡ true
digits_all [] h = refl
digits_all (b ∷ bytes) h = rw h.0 (digits_all bytes h.1)

digits_told : (bytes : List ℕ) → Decides (is_digits bytes) (IsDigits bytes)
digits_told [] = (λ h. cc, λ h. absurd h)
digits_told (b ∷ bytes) = rw (ne_eqb (length (b ∷ bytes)) 0 (λ none. omega (arith, none))) (all_digits (b ∷ bytes), digits_all (b ∷ bytes))

-- a byte that is one of these is no digit
unlike : (b other : ℕ) → (b == other) ≡ true → is_ascii_digit other ≡ false → is_ascii_digit b ≡ false
unlike b other is none = subst (λ n. is_ascii_digit n ≡ false) (sym (eqb-true b other is)) none

no_digit : (b : ℕ) → is_ascii_digit b ≡ false → is_ascii_digit b ≡ true → ⊥
no_digit b none some = let no : true ≡ false = sym some ∙ none in cc

no_sign : (b : ℕ) → (b == 43) ≡ false → (b == 45) ≡ false → is_sign b ≡ true → ⊥
no_sign b plus minus h = let no : false ≡ true = sym (rw (plus, minus) refl) ∙ h in cc

signed_told : (bytes : List ℕ) → Decides (is_digits (without_leading_sign bytes)) (IsSigned bytes)
signed_told [] = (λ h. absurd (cc), λ h. absurd h)
signed_told (b ∷ bytes) = go (b == 45) (b == 43) refl refl
  where
    go : (m p : Bool) → (b == 45) ≡ m → (b == 43) ≡ p → Decides (is_digits (cond m bytes (drop (cond p 1 0) (b ∷ bytes)))) (IsSigned (b ∷ bytes))
    go true true minus plus = absurd (let one : 45 ≡ 43 = sym (eqb-true b 45 minus) ∙ eqb-true b 43 plus in omega (arith, one))
    go true false minus plus = (
      λ h. inl (rw (plus, minus) refl, (digits_told bytes).0 h),
      λ s. elim s [ inl x ↦ (digits_told bytes).1 x.1 | inr d ↦ absurd (no_digit b (unlike b 45 minus refl) d.0) ],
    )
    go false true minus plus = (
      λ h. inl (rw plus refl, (digits_told bytes).0 h),
      λ s. elim s [ inl x ↦ (digits_told bytes).1 x.1 | inr d ↦ absurd (no_digit b (unlike b 43 plus refl) d.0) ],
    )
    go false false minus plus = (
      λ h. inr ((digits_told (b ∷ bytes)).0 h),
      λ s. elim s [ inl x ↦ absurd (no_sign b plus minus x.0) | inr d ↦ (digits_told (b ∷ bytes)).1 d ],
    )

exponent_told : (bytes : List ℕ) → Decides (is_exponent bytes) (IsExponent bytes)
exponent_told [] = (λ h. absurd (cc), λ h. absurd h)
exponent_told (b ∷ bytes) = (
  λ h. let parts = both (is_exponent_letter b) (is_digits (without_leading_sign bytes)) h in (parts.0, (signed_told bytes).0 parts.1),
  λ h. rw h.0 ((signed_told bytes).1 h.1),
)

or_nothing_told : (bytes : List ℕ) → Decides (is_exponent_or_nothing bytes) ((bytes ≡ []) ⊎ IsExponent bytes)
or_nothing_told [] = (λ h. inl refl, λ h. refl)
or_nothing_told (b ∷ bytes) = rw (ne_eqb (length (b ∷ bytes)) 0 (λ none. omega (arith, none))) (
  λ h. inr ((exponent_told (b ∷ bytes)).0 h),
  λ s. elim s [ inl none ↦ absurd (cc) | inr e ↦ (exponent_told (b ∷ bytes)).1 e ],
)

-- the letter of an exponent is no digit and no point
letter_facts : (b : ℕ) → is_exponent_letter b ≡ true → (is_ascii_digit b ≡ false) × (is_point b ≡ false)
letter_facts b h = go (b == 101) (b == 69) refl refl
  where
    at : (other : ℕ) → (b == other) ≡ true → (is_ascii_digit other ≡ false) × (is_point other ≡ false) → (is_ascii_digit b ≡ false) × (is_point b ≡ false)
    at other is facts = subst (λ n. (is_ascii_digit n ≡ false) × (is_point n ≡ false)) (sym (eqb-true b other is)) facts

    go : (low high : Bool) → (b == 101) ≡ low → (b == 69) ≡ high → (is_ascii_digit b ≡ false) × (is_point b ≡ false)
    go true high l u = at 101 l (refl, refl)
    go false true l u = at 69 u (refl, refl)
    go false false l u = absurd (let no : false ≡ true = sym (rw (l, u) refl) ∙ h in cc)

exponent_stops : (bytes : List ℕ) → IsExponent bytes → StopsDigits bytes
exponent_stops [] e = tt
exponent_stops (b ∷ bytes) e = (letter_facts b e.0).0

or_nothing_stops : (bytes : List ℕ) → (bytes ≡ []) ⊎ IsExponent bytes → StopsDigits bytes
or_nothing_stops bytes (inl none) = subst StopsDigits (sym none) tt
or_nothing_stops bytes (inr e) = exponent_stops bytes e

some_digits : (bytes : List ℕ) → 0 < length bytes → AreDigits bytes → IsDigits bytes
some_digits [] some all = absurd (omega (arith, some))
some_digits (b ∷ bytes) some all = all

digits_some : (bytes : List ℕ) → IsDigits bytes → (0 < length bytes) × AreDigits bytes
digits_some [] all = absurd all
digits_some (b ∷ bytes) all = (omega arith, all)

sound : (bytes : List ℕ) → is_unsigned_decimal bytes ≡ true → IsDecimal bytes
sound bytes h = go (drop (digits_before bytes) bytes) refl h
  where
    by : (b : ℕ) (rest : List ℕ) (point : Bool) → drop (digits_before bytes) bytes ≡ b ∷ rest → (b == 46) ≡ point
        → cond point (is_fraction (digits_before bytes) rest) (nat_lt 0 (digits_before bytes) && is_exponent (b ∷ rest)) ≡ true → IsDecimal bytes
    by b rest true is point h =
        let parts = both (nat_lt 0 (digits_before bytes + digits_before rest)) (is_exponent_or_nothing (drop (digits_before rest) rest)) h in
        let some : 0 < length (take (digits_before bytes) bytes) + length (take (digits_before rest) rest) = omega (arith, ltb-true 0 (digits_before bytes + digits_before rest) parts.0, front_length bytes, front_length rest) in
        let behind : 46 ∷ (take (digits_before rest) rest ++ drop (digits_before rest) rest) ≡ drop (digits_before bytes) bytes =
        ap (λ more. 46 ∷ more) (take-append-drop (digits_before rest) rest) ∙ ap (λ c. c ∷ rest) (sym (eqb-true b 46 point)) ∙ sym is in
        subst IsDecimal (ap (λ more. take (digits_before bytes) bytes ++ more) behind ∙ take-append-drop (digits_before bytes) bytes)
        (pointed (take (digits_before bytes) bytes) (take (digits_before rest) rest) (drop (digits_before rest) rest) (front_digits bytes) (front_digits rest) some ((or_nothing_told (drop (digits_before rest) rest)).0 parts.1))
    by b rest false is point h =
        let parts = both (nat_lt 0 (digits_before bytes)) (is_exponent (b ∷ rest)) h in
        let some : 0 < length (take (digits_before bytes) bytes) = omega (arith, ltb-true 0 (digits_before bytes) parts.0, front_length bytes) in
        subst IsDecimal (ap (λ more. take (digits_before bytes) bytes ++ more) (sym is) ∙ take-append-drop (digits_before bytes) bytes)
        (scaled (take (digits_before bytes) bytes) (b ∷ rest) (some_digits _ some (front_digits bytes)) ((exponent_told (b ∷ rest)).0 parts.1))

    go : (rest : List ℕ) → drop (digits_before bytes) bytes ≡ rest → makes_decimal (digits_before bytes) rest ≡ true → IsDecimal bytes
    go [] is h = absurd (cc)
    go (b ∷ rest) is h = by b rest (b == 46) is refl h

complete : {bytes : List ℕ} → IsDecimal bytes → is_unsigned_decimal bytes ≡ true
complete (pointed whole fraction exponent w f some e) =
    let first = digits_stop whole (46 ∷ (fraction ++ exponent)) w refl in
    let second = digits_stop fraction exponent f (or_nothing_stops exponent e) in
    rw (first.0, first.1, second.0, second.1, lt-ltb 0 (length whole + length fraction) some) ((or_nothing_told exponent).1 e)
complete (scaled whole exponent w e) = go exponent e
  where
    go : (exponent : List ℕ) → IsExponent exponent → is_unsigned_decimal (whole ++ exponent) ≡ true
    go [] e = absurd e
    go (b ∷ rest) e =
        let digits = digits_some whole w in
        let first = digits_stop whole (b ∷ rest) digits.1 (exponent_stops (b ∷ rest) e) in
        rw (first.0, first.1, (letter_facts b e.0).1, lt-ltb 0 (length whole) digits.0) ((exponent_told (b ∷ rest)).1 e)

pub tells_decimals : TellsDecimals
tells_decimals bytes = (sound (without_leading_sign bytes), λ is. complete is)
