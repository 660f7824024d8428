-- Where an expression ends: at the first `}` outside string literals and inner braces.
use Rattle.std.specs.Prelude.{◌≡◌, ◌++◌, ◌∷◌, ◌==◌, ◌||◌, ℕ, Bool, true, List, [], not}
use Rattle.pg_text.specs.Literals.{is_quote, any_byte, Between}

-- a byte that is no quote and no brace
abbrev pub is_other : ℕ → Bool
is_other b = not (is_quote b || ((b == 123) || (b == 125)))

-- what may stand in an expression: other bytes, whole string literals, and braces around what may stand in one
pub data IsInside : List ℕ → Type 0 where
  nothing_inside : IsInside []
  other_then : (b : ℕ) {more : List ℕ} → is_other b ≡ true → IsInside more → IsInside (b ∷ more)
  literal_then : (quote : ℕ) {between more : List ℕ} → is_quote quote ≡ true → Between any_byte quote between → IsInside more → IsInside (quote ∷ (between ++ quote ∷ more))
  braces_then : {inside more : List ℕ} → IsInside inside → IsInside more → IsInside (123 ∷ (inside ++ 125 ∷ more))

-- an expression's text begins here: this inside, its `}`, and what follows that
pub record EndsBehind (text inside rest : List ℕ) : Type 0 where
  pub inside_is : IsInside inside
  pub cut : text ≡ inside ++ 125 ∷ rest

-- the `}` of an expression is missing
abbrev pub HasNoEnd : List ℕ → Type 0
HasNoEnd text = (inside rest : List ℕ) → ¬ (EndsBehind text inside rest)
