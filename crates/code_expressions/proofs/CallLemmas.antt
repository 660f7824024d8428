-- So many values as if there were so many.
use Rattle.std.proofs.Common.{◌≡◌, ℕ, zero, suc, ◌+◌, ◌-◌, ◌<◌, ◌≤◌, min, List, [], ◌∷◌, ◌++◌, refl, sym, ap, ◌∙◌, arith, append_assoc}
use Rattle.std.proofs.lemmas.List.{append-nil}
use Rattle.page_code.specs.Shapes.{cell, up}
use Rattle.page_code.specs.declared.code.Cell.{Cell}
use Rattle.page_code.specs.declared.instr.Instr.TheVariants as instr
use Rattle.page_code.specs.declared.op.Op.TheVariants as op
use Rattle.page_code.specs.declared.shape.Shape.{Shape}
use Rattle.code_forms.specs.Codes.{form_code}
use Rattle.code_lowering.specs.Expressions.{constant, fitted}
use Rattle.pg_text.specs.declared.place.Place.{Place}
use Rattle.pg_value.specs.Datum.{null}

-- the cell that takes a value away
abbrev pub pop : Shape → Place → Cell
pop sh place = cell (up 1 sh) place (instr.Op op.Pop)

-- the codes of nulls that are put, and of values that are taken away
abbrev pub nulls : Shape → Place → ℕ → List Cell
nulls sh place k = form_code sh (fitted place 0 k)

abbrev pub pops : Shape → Place → ℕ → List Cell
pops sh place n = form_code sh (fitted place n 0)

with_values : (sh : Shape) (a b : ℕ) → a ≡ b → record sh { values = a } ≡ record sh { values = b }
with_values sh a b e = ap (λ v. record sh { values = v }) e

no_more : (sh : Shape) → up 0 sh ≡ sh
no_more sh = with_values sh (sh.values + 0) sh.values (omega arith)

-- the topmost goes first
pub pops_next : (sh : Shape) (place : Place) (n : ℕ) → pops sh place (suc n) ≡ pop (up n sh) place ∷ pops sh place n
pops_next sh place zero = ap (λ s. pop s place ∷ []) (sym (no_more sh))
pops_next sh place (suc n) =
    ap (λ cells. cells ++ pop sh place ∷ []) (pops_next (up 1 sh) place n)
    ∙ ap (λ s. pop s place ∷ pops sh place (suc n)) (with_values sh (sh.values + 1 + n) (sh.values + suc n) (omega arith))

-- those that both have stay, and then nulls are put or values taken away
abbrev pub fitted_code : Shape → Place → (kept more less : ℕ) → List Cell
fitted_code sh place kept more less = nulls (up kept sh) place more ++ pops (up kept sh) place less

fitted_same : (sh : Shape) (place : Place) (m a b m2 a2 b2 : ℕ) → m ≡ m2 → a ≡ a2 → b ≡ b2 → fitted_code sh place m a b ≡ fitted_code sh place m2 a2 b2
fitted_same sh place m a b m2 a2 b2 em ea eb = ap (λ x. fitted_code sh place x a b) em ∙ ap (λ x. fitted_code sh place m2 x b) ea ∙ ap (λ x. fitted_code sh place m2 a2 x) eb

pub fitted_is : (sh : Shape) (place : Place) (n k : ℕ) → form_code sh (fitted place n k) ≡ fitted_code sh place (min n k) (k - min n k) (n - min n k)
fitted_is sh place zero zero = refl
fitted_is sh place zero (suc k) =
    ap (λ s. nulls s place (suc k)) (sym (no_more sh)) ∙ sym (append-nil (nulls (up 0 sh) place (suc k)))
    ∙ fitted_same sh place 0 (suc k) 0 (min 0 (suc k)) (suc k - min 0 (suc k)) (0 - min 0 (suc k)) (omega arith) (omega arith) (omega arith)
fitted_is sh place (suc n) zero =
    ap (λ s. pops s place (suc n)) (sym (no_more sh))
    ∙ fitted_same sh place 0 0 (suc n) (min (suc n) 0) (0 - min (suc n) 0) (suc n - min (suc n) 0) (omega arith) (omega arith) (omega arith)
fitted_is sh place (suc n) (suc k) =
    fitted_is (up 1 sh) place n k
    ∙ ap (λ s. nulls s place (k - min n k) ++ pops s place (n - min n k)) (with_values sh (sh.values + 1 + min n k) (sh.values + suc (min n k)) (omega arith))
    ∙ fitted_same sh place (suc (min n k)) (k - min n k) (n - min n k) (min (suc n) (suc k)) (suc k - min (suc n) (suc k)) (suc n - min (suc n) (suc k)) (omega arith) (omega arith) (omega arith)

-- one null more was put
pub nulls_from : (sh : Shape) (place : Place) (left : ℕ) (code more total : List Cell) (above : Shape) → 0 < left → more ≡ code ++ form_code sh (constant place null) → above ≡ up 1 sh
    → code ++ nulls sh place left ≡ total → more ++ nulls above place (left - 1) ≡ total
nulls_from sh place zero code more total above lt made stands whole = absurd (omega (arith, lt))
nulls_from sh place (suc n) code more total above lt made stands whole =
    ap (λ k. more ++ nulls above place k) (omega arith)
    ∙ ap (λ s. more ++ nulls s place n) stands
    ∙ ap (λ c. c ++ nulls (up 1 sh) place n) made
    ∙ append_assoc code (form_code sh (constant place null)) (nulls (up 1 sh) place n)
    ∙ whole

-- one value more was taken away
pub pops_from : (sh : Shape) (place : Place) (left : ℕ) (code more total : List Cell) → 0 < left → more ≡ code ++ pop (up (left - 1) sh) place ∷ []
    → code ++ pops sh place left ≡ total → more ++ pops sh place (left - 1) ≡ total
pops_from sh place zero code more total lt made whole = absurd (omega (arith, lt))
pops_from sh place (suc n) code more total lt made whole =
    ap (λ c. c ++ pops sh place (suc n - 1)) made
    ∙ ap (λ k. (code ++ pop (up k sh) place ∷ []) ++ pops sh place k) less
    ∙ append_assoc code (pop (up n sh) place ∷ []) (pops sh place n)
    ∙ ap (λ c. code ++ c) (sym (pops_next sh place n))
    ∙ whole
  where
    less : suc n - 1 ≡ n
    less = omega arith

-- nothing is left to do
pub nulls_end : (sh : Shape) (place : Place) (left : ℕ) (code total : List Cell) → left ≤ 0 → code ++ nulls sh place left ≡ total → code ≡ total
nulls_end sh place zero code total none whole = sym (append-nil code) ∙ whole
nulls_end sh place (suc n) code total none whole = absurd (omega (arith, none))

pub pops_end : (sh : Shape) (place : Place) (left : ℕ) (code total : List Cell) → left ≤ 0 → code ++ pops sh place left ≡ total → code ≡ total
pops_end sh place zero code total none whole = sym (append-nil code) ∙ whole
pops_end sh place (suc n) code total none whole = absurd (omega (arith, none))

pub fitted_by : (sh above : Shape) (place : Place) (n k kept : ℕ) (put popped code : List Cell) → kept ≡ min n k → above ≡ up kept sh → put ≡ nulls above place (k - kept)
    → popped ≡ pops above place (n - kept) → code ≡ put ++ popped → code ≡ form_code sh (fitted place n k)
fitted_by sh above place n k kept put popped code is stands puts pops_are made =
    made
    ∙ ap (λ c. c ++ popped) puts ∙ ap (λ c. nulls above place (k - kept) ++ c) pops_are
    ∙ ap (λ s. nulls s place (k - kept) ++ pops s place (n - kept)) stands
    ∙ ap (λ m. fitted_code sh place m (k - m) (n - m)) is
    ∙ sym (fitted_is sh place n k)
