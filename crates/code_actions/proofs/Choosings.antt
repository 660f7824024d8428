-- The branches of a choice, one before the other.
use Rattle.std.proofs.Common.{◌≡◌, ℕ, ◌+◌, ◌-◌, ◌<◌, List, [], ◌∷◌, ◌++◌, length, drop, get_or, refl, sym, ap, ◌∙◌, append_assoc, length-append, arith}
use Rattle.std.proofs.lemmas.List.{drop_more}
use Rattle.code_actions.specs.Choosing.{before, size_before}
use Rattle.code_actions.specs.declared.choosing.TestedBranch.{TestedBranch}
use Rattle.page_code.specs.Shapes.{cell, up}
use Rattle.page_code.specs.declared.code.Cell.{Cell}
use Rattle.page_code.specs.declared.instr.Instr.TheVariants as instr
use Rattle.page_code.specs.declared.shape.Shape.{Shape}

-- how many cells branches have before a code
pub before_length : (sh : Shape) (whens : List TestedBranch) (last : List Cell) → length (before sh whens last) ≡ size_before whens (length last)
before_length sh [] last = refl
before_length sh (w ∷ rest) last =
    let e = length-append w.code (cell (up 0 sh) w.place (instr.Jump (length (before sh rest last))) ∷ before sh rest last) in
    let others = before_length sh rest last in
    omega (arith, e, others)

-- the cells of one branch more
pub size_more : (w : TestedBranch) (rest : List TestedBranch) (n : ℕ) → size_before (w ∷ rest) n ≡ size_before rest (n + length w.code + 1)
size_more w [] n = omega arith
size_more w (v ∷ rest) n = let e = size_more w rest n in omega (arith, e)

-- one branch more before the last
pub before_push : (sh : Shape) (whens : List TestedBranch) (w : TestedBranch) (last : List Cell) → before sh (whens ++ w ∷ []) last ≡ before sh whens (before sh (w ∷ []) last)
before_push sh [] w last = refl
before_push sh (v ∷ whens) w last =
    ap (λ cells. v.code ++ cell (up 0 sh) v.place (instr.Jump (length cells)) ∷ cells) (before_push sh whens w last)

-- the cells of one branch more of those in a slice
pub size_from : (whens : List TestedBranch) (i : ℕ) (w : TestedBranch) (size more total : ℕ) → i < length whens → w ≡ get_or whens i w → more ≡ size + length w.code + 1
    → size_before (drop i whens) size ≡ total → size_before (drop (i + 1) whens) more ≡ total
size_from whens i w size more total lt is made whole =
    ap (λ n. size_before (drop (i + 1) whens) n) made
    ∙ sym (size_more w (drop (i + 1) whens) size)
    ∙ ap (λ v. size_before (v ∷ drop (i + 1) whens) size) is
    ∙ ap (λ rest. size_before rest size) (sym (drop_more whens i w lt)) ∙ whole

-- what is left behind a branch and its jump
pub size_less : (w : TestedBranch) (rest all : List TestedBranch) (n left : ℕ) → all ≡ w ∷ rest → left ≡ size_before all n → left - length w.code - 1 ≡ size_before rest n
size_less w rest all n left is sized =
    let e = sized ∙ ap (λ ws. size_before ws n) is in
    omega (arith, e)

-- one branch more is joined
pub joined_from : (sh after : Shape) (w : TestedBranch) (rest all : List TestedBranch) (last total code joined more : List Cell) (left : ℕ) → all ≡ w ∷ rest → after ≡ up 0 sh
    → left ≡ size_before all (length last) → joined ≡ code ++ w.code → more ≡ joined ++ cell after w.place (instr.Jump (left - length w.code - 1)) ∷ []
    → code ++ before sh all last ≡ total → more ++ before sh rest last ≡ total
joined_from sh after w rest all last total code joined more left is stands sized first second whole =
    ap (λ cells. cells ++ before sh rest last)
    (second ∙ ap (λ s. joined ++ cell s w.place (instr.Jump (left - length w.code - 1)) ∷ []) stands
    ∙ ap (λ n. joined ++ cell (up 0 sh) w.place (instr.Jump n) ∷ []) (size_less w rest all (length last) left is sized ∙ sym (before_length sh rest last))
    ∙ ap (λ cells. cells ++ over ∷ []) first)
    ∙ append_assoc (code ++ w.code) (over ∷ []) (before sh rest last)
    ∙ append_assoc code w.code (over ∷ before sh rest last)
    ∙ ap (λ ws. code ++ before sh ws last) (sym is) ∙ whole
  where
    over : Cell
    over = cell (up 0 sh) w.place (instr.Jump (length (before sh rest last)))
