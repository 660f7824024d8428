-- The quote that ends a value, looked for from left to right.
use Rattle.std.proofs.Common.{◌≡◌, ◌<◌, ◌+◌, ℕ, Bool, true, List, [], ◌∷◌, ◌++◌, length, get_or, refl, ap, arith, append_assoc, Option, Some, None, IsUtf8}
use Rattle.std.specs.Str.{IsCharBoundary}
use Rattle.std.proofs.lemmas.Str.{IsCharBoundary-after_ascii}
use Rattle.std.proofs.lemmas.Bool.Decides.{nat_tests}
use Rattle.pg_text.specs.Literals.{is_quote}
use Rattle.pg_text.proofs.LiteralLemmas.{quote_ascii}
use Rattle.page_pieces.specs.Texts.{further}
use Rattle.page_pieces.specs.ReadValue.{ends_value}

-- bytes before what was found
abbrev pub further_by : List ℕ → Option (List ℕ × List ℕ) → Option (List ℕ × List ℕ)
further_by front None = None
further_by front (Some found) = Some (front ++ found.0, found.1)

pub further_by_nothing : (found : Option (List ℕ × List ℕ)) → further_by [] found ≡ found
further_by_nothing None = refl
further_by_nothing (Some found) = refl

-- one byte more
pub further_one : (front : List ℕ) (b : ℕ) (found : Option (List ℕ × List ℕ)) → further_by (front ++ b ∷ []) found ≡ further_by front (further b found)
further_one front b None = refl
further_one front b (Some found) = ap (λ t. Some (t, found.1)) (append_assoc front (b ∷ []) found.0)

ending_is : (quote : ℕ) (escaped : Bool) (b : ℕ) → ends_value quote escaped b ≡ true → b ≡ quote
ending_is quote escaped b is = grind (arith, nat_tests)

-- the text may be cut behind the quote
pub quote_cut : (text bytes : List ℕ) (i quote : ℕ) (escaped : Bool) → IsUtf8 text → bytes ≡ text → i < length bytes → is_quote quote ≡ true → ends_value quote escaped (get_or bytes i 0) ≡ true → IsCharBoundary text (i + 1)
quote_cut text bytes i quote escaped utf8 same within is ends =
    let ascii = quote_ascii quote is in
    let found = ending_is quote escaped (get_or bytes i 0) ends in
    IsCharBoundary-after_ascii text i utf8 (omega (arith, ap length same)) (omega (arith, ap (λ t. get_or t i 0) same))
