-- The size on which the values of Content-Length agree, found from value to value.
use Rattle.std.proofs.Common.{◌≡◌, ◌≢◌, ℕ, true, false, List, [], ◌∷◌, Option, Some, None, refl, sym, ap, arith}
use Rattle.std.specs.Prelude.{nat_eq}
use Rattle.std.specs.Option.{unwrap_or}
use Rattle.std.proofs.lemmas.Bool.Decides.{nat_tests}
use Rattle.pg_text.specs.Numbers.{whole_number}
use Rattle.http_in.specs.Length.{agreed, size_of}

-- the size, where one was found already, or none
abbrev pub size_from : Option ℕ → List (List ℕ) → Option ℕ
size_from None values = size_of values
size_from (Some found) values = agreed (Some found) values

-- a value that writes no number leaves no size
pub no_number : (found : Option ℕ) (value : List ℕ) (left : List (List ℕ)) → None ≡ whole_number value → size_from found (value ∷ left) ≡ None
no_number None value left none = ap (λ number. agreed number left) (sym none)
no_number (Some found) value left none = rw (sym none) refl

differs : (n m : ℕ) → n ≢ m → nat_eq n m ≡ false
differs n m other = grind (arith, nat_tests)

same : (n m : ℕ) → n ≡ m → nat_eq n m ≡ true
same n m equal = grind (arith, nat_tests)

-- a value with another number than was found leaves no size
pub other_number : (found : Option ℕ) (value : List ℕ) (left : List (List ℕ)) (number : ℕ) → Some number ≡ whole_number value → unwrap_or found number ≢ number
    → size_from found (value ∷ left) ≡ None
other_number None value left number writes_it other = absurd (other refl)
other_number (Some found) value left number writes_it other = rw (sym writes_it, differs number found (λ e. other (sym e))) refl

-- after a value with the number that was found, or after the first one
pub number_found : (found : Option ℕ) (value : List ℕ) (left : List (List ℕ)) (number : ℕ) → Some number ≡ whole_number value → unwrap_or found number ≡ number
    → size_from found (value ∷ left) ≡ size_from (Some number) left
number_found None value left number writes_it equal = ap (λ n. agreed n left) (sym writes_it)
number_found (Some found) value left number writes_it equal = rw (sym writes_it, same number found (sym equal)) (ap (λ n. agreed (Some n) left) equal)

-- after the last value the size is what was found, or 0
pub size_found : (found : Option ℕ) → size_from found [] ≡ Some (unwrap_or found 0)
size_found None = refl
size_found (Some found) = refl
