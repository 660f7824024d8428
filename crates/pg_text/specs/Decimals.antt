-- How numbers with a fraction or an exponent are spelled.
use Rattle.std.specs.Prelude.{◌≡◌, ◌==◌, ◌||◌, ◌⊎◌, ◌+◌, ◌<◌, ℕ, Bool, true, List, [], ◌∷◌, ◌++◌, length}
use Rattle.std.specs.Char.{is_ascii_digit}
use Rattle.std.specs.List.{AllByRecursion}

-- digits, or nothing
abbrev pub AreDigits : List ℕ → Type 0
AreDigits bytes = AllByRecursion (λ b. is_ascii_digit b ≡ true) bytes

-- one digit or more
abbrev pub IsDigits : List ℕ → Type 0
IsDigits [] = ⊥
IsDigits (b ∷ bytes) = AreDigits (b ∷ bytes)

-- `.`
abbrev pub is_point : ℕ → Bool
is_point b = b == 46

-- `e` or `E`
abbrev pub is_exponent_letter : ℕ → Bool
is_exponent_letter b = (b == 101) || (b == 69)

-- `+` or `-`
abbrev pub is_sign : ℕ → Bool
is_sign b = (b == 43) || (b == 45)

-- digits behind an optional sign
abbrev pub IsSigned : List ℕ → Type 0
IsSigned [] = ⊥
IsSigned (b ∷ bytes) = ((is_sign b ≡ true) × IsDigits bytes) ⊎ IsDigits (b ∷ bytes)

-- `e` or `E`, an optional sign and digits
abbrev pub IsExponent : List ℕ → Type 0
IsExponent [] = ⊥
IsExponent (b ∷ bytes) = (is_exponent_letter b ≡ true) × IsSigned bytes

-- a decimal: digits with a point somewhere among them, before or behind them, and an optional exponent; or digits and an exponent
pub data IsDecimal : List ℕ → Type 0 where
  pointed : (whole fraction exponent : List ℕ) → AreDigits whole → AreDigits fraction → 0 < length whole + length fraction → (exponent ≡ []) ⊎ IsExponent exponent → IsDecimal (whole ++ 46 ∷ (fraction ++ exponent))
  scaled : (whole exponent : List ℕ) → IsDigits whole → IsExponent exponent → IsDecimal (whole ++ exponent)
