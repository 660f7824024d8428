-- Quotes, and what stands between two of them, byte by byte.
use Rattle.std.proofs.Common.{◌≡◌, ◌≢◌, ◌<◌, ℕ, Bool, true, false, eqb, List, ◌∷◌, refl, sym, subst, arith}
use Rattle.std.proofs.lemmas.Bool.Decides.{nat_tests}
use Rattle.pg_text.specs.Literals.{is_quote, Between, byte_then, escaped_then}

pub quote_ascii : (quote : ℕ) → is_quote quote ≡ true → quote < 128
quote_ascii quote is = grind (arith, nat_tests)

pub quote_no_backslash : (quote : ℕ) → is_quote quote ≡ true → eqb 92 quote ≡ false
quote_no_backslash quote is = grind (arith, nat_tests)

module _ (may_follow : ℕ → Bool) where
  -- what may follow between quotes, where a backslash stands before it or not
  abbrev pub BetweenFrom : Bool → ℕ → List ℕ → Type 0
  BetweenFrom false quote bytes = Between may_follow quote bytes
  BetweenFrom true quote bytes = (b : ℕ) × (more : List ℕ) × (bytes ≡ b ∷ more) × (may_follow b ≡ true) × Between may_follow quote more

  -- a byte other than the quote before what may follow it
  pub byte_between : (quote b : ℕ) (bytes : List ℕ) → eqb b quote ≡ false → BetweenFrom (eqb b 92) quote bytes → Between may_follow quote (b ∷ bytes)
  byte_between quote b bytes other between = go (eqb b 92) refl between
    where
      go : (backslash : Bool) → eqb b 92 ≡ backslash → BetweenFrom backslash quote bytes → Between may_follow quote (b ∷ bytes)
      go true is (c, more, cut, may, literal) =
          let back : 92 ≡ b = grind (arith, nat_tests) in
          subst (Between may_follow quote) (λ i. back i ∷ sym cut i) (escaped_then c may literal)
      go false is literal = byte_then b no_quote no_backslash literal
        where
          no_quote : b ≢ quote
          no_quote same = absurd (grind (arith, nat_tests))

          no_backslash : b ≢ 92
          no_backslash same = absurd (grind (arith, nat_tests))
