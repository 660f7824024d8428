-- How far an expression is scanned.
use Rattle.std.proofs.Common.{◌≡◌, ◌≤◌, ◌<◌, ◌+◌, ◌-◌, ◌||◌, ◌∙◌, ℕ, suc, Bool, true, false, cond, List, [], ◌∷◌, ◌++◌, length, take, drop, get_or, refl, sym, ap, arith, Option, Some, None, append_assoc, eqb, add-one, drop-cons}
use Rattle.std.proofs.Math.Seq.{take-suc}
use Rattle.std.proofs.lemmas.Bool.Decides.{nat_tests}
use Rattle.std.proofs.lemmas.List.{append-nil, drop_all}
use Rattle.page_pieces.specs.declared.expression.Scanning.{Scanning}
use Rattle.page_pieces.specs.Texts.{further}
use Rattle.page_pieces.specs.ReadExpression.{outside_literal, within_literal, scan_byte_in, scan_byte, nothing_open, brace_or, around_brace}

-- these bytes before what stands before the brace
abbrev pub before_that : List ℕ → Option (List ℕ × List ℕ) → Option (List ℕ × List ℕ)
before_that front None = None
before_that front (Some found) = Some (front ++ found.0, found.1)

-- the scan of a text, so many bytes of which are behind it with this state
pub record Scanned (text : List ℕ) (n : ℕ) (state : Scanning) : Type 0 where
  pub same : before_that (take n text) (around_brace state (drop n text)) ≡ around_brace nothing_open text

one_on : (front : List ℕ) (b : ℕ) (found : Option (List ℕ × List ℕ)) → before_that front (further b found) ≡ before_that (front ++ b ∷ []) found
one_on front b None = refl
one_on front b (Some found) = ap (λ t. Some (t, found.1)) (sym (append_assoc front (b ∷ []) found.0))

step : (front : List ℕ) (state : Scanning) (b : ℕ) (bytes : List ℕ) (next : Scanning) → scan_byte state b ≡ Some next
    → before_that front (around_brace state (b ∷ bytes)) ≡ before_that (front ++ b ∷ []) (around_brace next bytes)
step front state b bytes next is = ap (λ s. before_that front (brace_or s b bytes (λ next. around_brace next bytes))) is ∙ one_on front b (around_brace next bytes)

stop : (front : List ℕ) (state : Scanning) (b : ℕ) (bytes : List ℕ) → scan_byte state b ≡ None → before_that front (around_brace state (b ∷ bytes)) ≡ Some (front, bytes)
stop front state b bytes is = ap (λ s. before_that front (brace_or s b bytes (λ next. around_brace next bytes))) is ∙ ap (λ t. Some (t, bytes)) (append-nil front)

-- one byte more
pub scanned_on : {text : List ℕ} {n : ℕ} {state : Scanning} (b : ℕ) (next : Scanning) → Scanned text n state → n < length text → get_or text n 0 ≡ b → scan_byte state b ≡ Some next → Scanned text (n + 1) next
scanned_on {text} {n} {state} b next scanned within at is = record {
  same =
      (λ i. before_that (front i) (around_brace next (drop (add-one n i) text)))
      ∙ sym (step (take n text) state b (drop (suc n) text) next is)
      ∙ ap (λ t. before_that (take n text) (around_brace state t)) (sym (drop-cons text n 0 within ∙ ap (λ c. c ∷ drop (suc n) text) at))
      ∙ scanned.same;
}
  where
    front : take (n + 1) text ≡ take n text ++ b ∷ []
    front = ap (λ m. take m text) (add-one n) ∙ take-suc text n 0 within ∙ ap (λ c. take n text ++ c ∷ []) at

-- the byte that ends the expression
pub ends_here : {text : List ℕ} {n : ℕ} {state : Scanning} (b : ℕ) → Scanned text n state → n < length text → get_or text n 0 ≡ b → scan_byte state b ≡ None → Some (take n text, drop (n + 1) text) ≡ around_brace nothing_open text
ends_here {text} {n} {state} b scanned within at is =
    ap (λ m. Some (take n text, drop m text)) (add-one n)
    ∙ sym (stop (take n text) state b (drop (suc n) text) is)
    ∙ ap (λ t. before_that (take n text) (around_brace state t)) (sym (drop-cons text n 0 within ∙ ap (λ c. c ∷ drop (suc n) text) at))
    ∙ scanned.same

-- the whole text has no such byte
pub never_ends : {text : List ℕ} {n : ℕ} {state : Scanning} → Scanned text n state → length text ≤ n → None ≡ around_brace nothing_open text
never_ends {text} {n} {state} scanned whole = sym (ap (λ t. before_that (take n text) (around_brace state t)) (drop_all n text whole)) ∙ scanned.same

-- that byte is a brace
in_literal : (quote : ℕ) (state : Scanning) (b : ℕ) → within_literal quote state b ≡ None → ⊥
in_literal quote state b is = go state.escaped (eqb b 92) (eqb b quote) is
  where
    go : (x y z : Bool) → cond x (Some (record state { escaped = false })) (cond y (Some (record state { escaped = true })) (cond z (Some (record state { literal = None })) (Some state))) ≡ None → ⊥
    go true y z is = cc
    go false true z is = cc
    go false false true is = cc
    go false false false is = cc

out_of_literal : (state : Scanning) (b : ℕ) → outside_literal state b ≡ None → b ≡ 125
out_of_literal state b is = go (eqb b 125) refl (eqb b 123) ((eqb b 34) || (eqb b 39)) is
  where
    go : (x : Bool) → eqb b 125 ≡ x → (y z : Bool) → cond x (cond (eqb state.depth 0) None (Some (record state { depth = state.depth - 1 }))) (cond y (Some (record state { depth = state.depth + 1 })) (cond z (Some (record state { literal = Some b })) (Some state))) ≡ None → b ≡ 125
    go true x y z is = grind (arith, nat_tests)
    go false x true z is = cc
    go false x false true is = cc
    go false x false false is = cc

pub is_brace : (state : Scanning) (b : ℕ) → scan_byte state b ≡ None → b ≡ 125
is_brace state b is = go state.literal is
  where
    go : (literal : Option ℕ) → scan_byte_in literal state b ≡ None → b ≡ 125
    go None is = out_of_literal state b is
    go (Some quote) is = absurd (in_literal quote state b is)
