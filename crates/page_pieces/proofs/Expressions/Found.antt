-- The scan of an expression, byte by byte, finds the end that the grammar has, and no other.
use Rattle.std.proofs.Common.{◌≡◌, ◌≢◌, ◌+◌, ◌-◌, ◌||◌, ◌∙◌, ℕ, Bool, true, false, cond, eqb, Option, Some, None, List, [], ◌∷◌, ◌++◌, refl, sym, ap, arith, append_assoc}
use Rattle.std.proofs.lemmas.Bool.{cond-true, cond-false, ne_eqb, eq-eqb}
use Rattle.std.proofs.lemmas.Bool.Decides.{nat_tests}
use Rattle.page_pieces.specs.declared.expression.Scanning.{Scanning}
use Rattle.page_pieces.specs.Texts.{further}
use Rattle.pg_text.specs.Literals.{is_quote, any_byte, Between, nothing_between, byte_then, escaped_then}
use Rattle.page_pieces.specs.Expressions.{is_other, IsInside, nothing_inside, other_then, literal_then, braces_then, EndsBehind}
use Rattle.page_pieces.specs.ReadExpression.{scan_byte, nothing_open, brace_or, around_brace}

-- outside literals, within so many inner braces
abbrev outside : ℕ → Scanning
outside depth = record { literal = None; escaped = false; depth = depth }

abbrev within : ℕ → Bool → ℕ → Scanning
within quote escaped depth = record { literal = Some quote; escaped = escaped; depth = depth }

-- these bytes before what stands before the brace
abbrev before_that : List ℕ → Option (List ℕ × List ℕ) → Option (List ℕ × List ℕ)
before_that front None = None
before_that front (Some found) = Some (front ++ found.0, found.1)

before_nothing : (found : Option (List ℕ × List ℕ)) → found ≡ before_that [] found
before_nothing None = refl
before_nothing (Some found) = refl

before_byte : (b : ℕ) (front : List ℕ) (found : Option (List ℕ × List ℕ)) → further b (before_that front found) ≡ before_that (b ∷ front) found
before_byte b front None = refl
before_byte b front (Some found) = refl

before_both : (front more : List ℕ) (found : Option (List ℕ × List ℕ)) → before_that front (before_that more found) ≡ before_that (front ++ more) found
before_both front more None = refl
before_both front more (Some found) = ap (λ t. Some (t, found.1)) (sym (append_assoc front more found.0))

-- a byte that leaves a state
goes : (state next : Scanning) (b : ℕ) (bytes : List ℕ) → scan_byte state b ≡ Some next → around_brace state (b ∷ bytes) ≡ further b (around_brace next bytes)
goes state next b bytes is = ap (λ s. brace_or s b bytes (λ next. around_brace next bytes)) is

is_not : (a b : ℕ) → a ≢ b → eqb a b ≡ false
is_not a b ne = ne_eqb a b ne

quote_not_slash : (quote : ℕ) → is_quote quote ≡ true → quote ≢ 92
quote_not_slash quote is same = absurd (grind (arith, nat_tests))

-- a whole literal is passed over
literal_passed : (quote depth : ℕ) → is_quote quote ≡ true → {between : List ℕ} → Between any_byte quote between → (tail : List ℕ)
    → around_brace (within quote false depth) (between ++ quote ∷ tail) ≡ before_that (between ++ quote ∷ []) (around_brace (outside depth) tail)
literal_passed quote depth is nothing_between tail =
    goes (within quote false depth) (outside depth) quote tail step ∙ ap (further quote) (before_nothing (around_brace (outside depth) tail)) ∙ before_byte quote [] (around_brace (outside depth) tail)
  where
    step : scan_byte (within quote false depth) quote ≡ Some (outside depth)
    step = cond-false (eqb quote 92) _ _ (is_not quote 92 (quote_not_slash quote is)) ∙ cond-true (eqb quote quote) _ _ (eq-eqb quote quote refl)
literal_passed quote depth is (byte_then b {bytes = bytes} ne no_slash more) tail =
    goes (within quote false depth) (within quote false depth) b (bytes ++ quote ∷ tail) step
    ∙ ap (further b) (literal_passed quote depth is more tail)
    ∙ before_byte b (bytes ++ quote ∷ []) (around_brace (outside depth) tail)
  where
    step : scan_byte (within quote false depth) b ≡ Some (within quote false depth)
    step = cond-false (eqb b 92) _ _ (is_not b 92 no_slash) ∙ cond-false (eqb b quote) _ _ (is_not b quote ne)
literal_passed quote depth is (escaped_then b {bytes = bytes} may more) tail =
    goes (within quote false depth) (within quote true depth) 92 (b ∷ (bytes ++ quote ∷ tail)) refl
    ∙ ap (further 92) (goes (within quote true depth) (within quote false depth) b (bytes ++ quote ∷ tail) refl
    ∙ ap (further b) (literal_passed quote depth is more tail)
    ∙ before_byte b (bytes ++ quote ∷ []) (around_brace (outside depth) tail))
    ∙ before_byte 92 (b ∷ (bytes ++ quote ∷ [])) (around_brace (outside depth) tail)

other_goes : (depth b : ℕ) → is_other b ≡ true → scan_byte (outside depth) b ≡ Some (outside depth)
other_goes depth b is = go (eqb b 125) refl (eqb b 123) refl (eqb b 34) refl (eqb b 39) refl
  where
    go : (x : Bool) → eqb b 125 ≡ x → (y : Bool) → eqb b 123 ≡ y → (z : Bool) → eqb b 34 ≡ z → (w : Bool) → eqb b 39 ≡ w
        → cond x (cond (eqb depth 0) None (Some (record (outside depth) { depth = depth - 1 }))) (cond y (Some (record (outside depth) { depth = depth + 1 })) (cond (z || w) (Some (record (outside depth) { literal = Some b })) (Some (outside depth)))) ≡ Some (outside depth)
    go false _ false _ false _ false _ = refl
    go true at y _ z _ w _ = absurd (grind (arith, nat_tests))
    go false _ true at z _ w _ = absurd (grind (arith, nat_tests))
    go false _ false _ true at w _ = absurd (grind (arith, nat_tests))
    go false _ false _ false _ true at = absurd (grind (arith, nat_tests))

quote_goes : (depth b : ℕ) → is_quote b ≡ true → scan_byte (outside depth) b ≡ Some (within b false depth)
quote_goes depth b is = go (eqb b 125) refl (eqb b 123) refl (is_quote b) is
  where
    go : (x : Bool) → eqb b 125 ≡ x → (y : Bool) → eqb b 123 ≡ y → (z : Bool) → z ≡ true
        → cond x (cond (eqb depth 0) None (Some (record (outside depth) { depth = depth - 1 }))) (cond y (Some (record (outside depth) { depth = depth + 1 })) (cond z (Some (record (outside depth) { literal = Some b })) (Some (outside depth)))) ≡ Some (within b false depth)
    go true at y _ z _ = absurd (grind (arith, nat_tests))
    go false _ true at z _ = absurd (grind (arith, nat_tests))
    go false _ false _ true _ = refl
    go false _ false _ false not_so = cc

-- what may stand in an expression is passed over
inside_passed : (depth : ℕ) {inside : List ℕ} → IsInside inside → (tail : List ℕ) → around_brace (outside depth) (inside ++ tail) ≡ before_that inside (around_brace (outside depth) tail)
inside_passed depth nothing_inside tail = before_nothing (around_brace (outside depth) tail)
inside_passed depth (other_then b {more = more} other inside) tail =
    goes (outside depth) (outside depth) b (more ++ tail) (other_goes depth b other)
    ∙ ap (further b) (inside_passed depth inside tail)
    ∙ before_byte b more (around_brace (outside depth) tail)
inside_passed depth (literal_then quote {between = between} {more = more} is literal inside) tail =
    ap (λ t. around_brace (outside depth) (quote ∷ t)) (append_assoc between (quote ∷ more) tail)
    ∙ goes (outside depth) (within quote false depth) quote (between ++ quote ∷ (more ++ tail)) (quote_goes depth quote is)
    ∙ ap (further quote) (literal_passed quote depth is literal (more ++ tail)
    ∙ ap (before_that (between ++ quote ∷ [])) (inside_passed depth inside tail)
    ∙ before_both (between ++ quote ∷ []) more (around_brace (outside depth) tail))
    ∙ before_byte quote ((between ++ quote ∷ []) ++ more) (around_brace (outside depth) tail)
    ∙ ap (λ t. before_that (quote ∷ t) (around_brace (outside depth) tail)) (append_assoc between (quote ∷ []) more)
inside_passed depth (braces_then {inside = inside} {more = more} inner outer) tail =
    ap (λ t. around_brace (outside depth) (123 ∷ t)) (append_assoc inside (125 ∷ more) tail)
    ∙ goes (outside depth) (outside (depth + 1)) 123 (inside ++ 125 ∷ (more ++ tail)) refl
    ∙ ap (further 123) (inside_passed (depth + 1) inner (125 ∷ (more ++ tail))
    ∙ ap (before_that inside) (closes ∙ ap (further 125) (inside_passed depth outer tail) ∙ before_byte 125 more (around_brace (outside depth) tail))
    ∙ before_both inside (125 ∷ more) (around_brace (outside depth) tail))
    ∙ before_byte 123 (inside ++ 125 ∷ more) (around_brace (outside depth) tail)
  where
    less : depth + 1 - 1 ≡ depth
    less = omega arith

    some : eqb (depth + 1) 0 ≡ false
    some = ne_eqb (depth + 1) 0 (λ none. omega arith)

    closes : around_brace (outside (depth + 1)) (125 ∷ (more ++ tail)) ≡ further 125 (around_brace (outside depth) (more ++ tail))
    closes =
        goes (outside (depth + 1)) (outside (depth + 1 - 1)) 125 (more ++ tail) (cond-false (eqb (depth + 1) 0) _ _ some)
        ∙ ap (λ d. further 125 (around_brace (outside d) (more ++ tail))) less

-- the end that the grammar has is found
pub end_found : (text inside rest : List ℕ) → EndsBehind text inside rest → around_brace nothing_open text ≡ Some (inside, rest)
end_found text inside rest ends =
    ap (around_brace nothing_open) ends.cut ∙ inside_passed 0 ends.inside_is (125 ∷ rest) ∙ ap (λ t. Some (t, rest)) (nothing_behind inside)
  where
    nothing_behind : (front : List ℕ) → front ++ [] ≡ front
    nothing_behind [] = refl
    nothing_behind (b ∷ front) = ap (λ t. b ∷ t) (nothing_behind front)
