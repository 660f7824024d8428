-- Where a byte stands for the first time.
use Rattle.std.proofs.Common.{◌≡◌, ℕ, ◌≤◌, Bool, true, false, cond, ltb, List, length, Option, Some, None, refl, ap, ◌∙◌, arith}
use Rattle.std.specs.List.{position_or_len}
use Rattle.std.specs.Option.{unwrap_or}
use Rattle.std.proofs.lemmas.Bool.Decides.{nat_tests}
use Rattle.std.proofs.lemmas.List.Sums.{prefix_len-le-length}

no_place : (place size : ℕ) → place ≤ size → ltb place size ≡ false → size ≡ place
no_place place size within none = grind (arith, nat_tests)

-- the place that was found, or the end
pub place_or_end : (test : ℕ → Bool) (bytes : List ℕ) (found : Option ℕ)
    → found ≡ cond (ltb (position_or_len test bytes) (length bytes)) (Some (position_or_len test bytes)) None → unwrap_or found (length bytes) ≡ position_or_len test bytes
place_or_end test bytes found is = ap (λ o. unwrap_or o (length bytes)) is ∙ go (ltb (position_or_len test bytes) (length bytes)) refl
  where
    go : (there : Bool) → ltb (position_or_len test bytes) (length bytes) ≡ there
        → unwrap_or (cond there (Some (position_or_len test bytes)) None) (length bytes) ≡ position_or_len test bytes
    go true is = refl
    go false is = no_place (position_or_len test bytes) (length bytes) (prefix_len-le-length _ bytes) is
