-- A value up to the quote that ends it.
use Rattle.std.proofs.Common.{◌≡◌, ℕ, Bool, true, false, cond, Option, Some, None, List, [], ◌∷◌, ◌++◌, refl, ap, ◌∙◌, subst, arith}
use Rattle.std.proofs.lemmas.Bool.{cond-true, ne_eqb, eq-eqb}
use Rattle.std.proofs.lemmas.Bool.Decides.{nat_tests}
use Rattle.page_pieces.specs.Texts.{further}
use Rattle.pg_text.specs.Literals.{is_quote, any_byte, Between, nothing_between, byte_then, escaped_then}
use Rattle.pg_text.proofs.LiteralLemmas.{BetweenFrom, byte_between, quote_no_backslash}
use Rattle.page_pieces.specs.ReadValue.{ends_value, takes_next, around_quote}

-- the value ends at the first such quote, and this rest follows
pub record ValueFront (quote : ℕ) (escaped : Bool) (text value rest : List ℕ) : Type 0 where
  pub cut : text ≡ value ++ quote ∷ rest
  pub between : BetweenFrom any_byte escaped quote value

-- something was found behind this byte
record Further (b : ℕ) (found : Option (List ℕ × List ℕ)) (value rest : List ℕ) : Type 0 where
  behind : List ℕ
  found_is : found ≡ Some (behind, rest)
  value_is : b ∷ behind ≡ value

further_found : (b : ℕ) (found : Option (List ℕ × List ℕ)) (value rest : List ℕ) → further b found ≡ Some (value, rest) → Further b found value rest
further_found b None value rest is = cc
further_found b (Some found) value rest is = record { behind = found.0; found_is = ap (λ r. Some (found.0, r)) rest_is; value_is = ap (λ x. x.0) same }
  where
    same : ◌≡◌ {A = List ℕ × List ℕ} (b ∷ found.0, found.1) (value, rest)
    same = cc

    rest_is : found.1 ≡ rest
    rest_is = ap (λ x. x.1) same

-- a byte before what may follow it
byte_before : (quote b : ℕ) (escaped : Bool) (bytes : List ℕ) → ends_value quote escaped b ≡ false → BetweenFrom any_byte (takes_next escaped b) quote bytes → BetweenFrom any_byte escaped quote (b ∷ bytes)
byte_before quote b true bytes goes_on between = (b, bytes, refl, refl, between)
byte_before quote b false bytes goes_on between = byte_between any_byte quote b bytes goes_on between

pub value_front : (quote : ℕ) (escaped : Bool) (text value rest : List ℕ) → around_quote quote escaped text ≡ Some (value, rest) → ValueFront quote escaped text value rest
value_front quote escaped [] value rest is = cc
value_front quote escaped (b ∷ bytes) value rest is = go (ends_value quote escaped b) refl is (λ v e. value_front quote (takes_next escaped b) bytes v rest e)
  where
    last : (flag : Bool) → ends_value quote flag b ≡ true → ◌≡◌ {A = List ℕ × List ℕ} ([], bytes) (value, rest) → ValueFront quote flag (b ∷ bytes) value rest
    last true ends same = cc
    last false ends same =
        let quoted : b ≡ quote = grind (arith, nat_tests) in
        record {
          cut = λ i. ap {B = List ℕ} (λ x. x.0) same i ++ quoted i ∷ ap {B = List ℕ} (λ x. x.1) same i;
          between = subst (Between any_byte quote) (ap (λ x. x.0) same) nothing_between;
        }

    go : (ends : Bool) → ends_value quote escaped b ≡ ends → cond ends (Some ([], bytes)) (further b (around_quote quote (takes_next escaped b) bytes)) ≡ Some (value, rest)
        → ((v : List ℕ) → around_quote quote (takes_next escaped b) bytes ≡ Some (v, rest) → ValueFront quote (takes_next escaped b) bytes v rest) → ValueFront quote escaped (b ∷ bytes) value rest
    go true ends is rec = last escaped ends cc
    go false ends is rec =
        let more = further_found b (around_quote quote (takes_next escaped b) bytes) value rest is in
        let front = rec more.behind more.found_is in
        record {
          cut = ap (λ t. b ∷ t) front.cut ∙ ap (λ v. v ++ quote ∷ rest) more.value_is;
          between = subst (BetweenFrom any_byte escaped quote) more.value_is (byte_before quote b escaped more.behind ends front.between);
        }

-- the quote behind what stands between quotes is found
pub value_found : (quote : ℕ) → is_quote quote ≡ true → {value : List ℕ} → Between any_byte quote value → (rest : List ℕ) → around_quote quote false (value ++ quote ∷ rest) ≡ Some (value, rest)
value_found quote is nothing_between rest = cond-true _ _ _ (eq-eqb quote quote refl)
value_found quote is (byte_then b {bytes = bytes} no_quote no_slash between) rest = rw (ne_eqb b quote no_quote, ne_eqb b 92 no_slash, value_found quote is between rest) refl
value_found quote is (escaped_then b {bytes = bytes} may between) rest = rw (quote_no_backslash quote is, value_found quote is between rest) refl
