-- How wanted values are found among named ones, step by step.
use Rattle.std.proofs.Common.{◌≡◌, ℕ, zero, suc, ◌+◌, ◌-◌, ◌<◌, ◌≤◌, Bool, true, false, List, [], ◌∷◌, ◌++◌, length, get_or, Some, None, Option, IfSome, bytes_eq, refl, sym, ap, ◌∙◌, subst, arith, append_assoc, add-one, drop-cons, length-drop}
use Rattle.std.specs.Prelude.{take, drop}
use Rattle.pg_text.specs.declared.place.Place.{Place}
use Rattle.page_code.specs.Shapes.{cell, up}
use Rattle.page_code.specs.declared.code.Cell.{Cell}
use Rattle.page_code.specs.declared.instr.Instr.TheVariants as instr
use Rattle.page_code.specs.declared.op.Op.TheVariants as op
use Rattle.page_code.specs.declared.shape.Shape.{Shape}
use Rattle.code_forms.specs.Arranging.{place_from, found_with, last_place, left_names, wanted_code}
use Rattle.code_forms.specs.Codes.{Parted, parted_with, parted, arranged_code, brought_code, dropped_code, put_code}

next : {R : Type 0} (all : List R) (i : ℕ) (x : R) → i < length all → x ≡ get_or all i x → drop i all ≡ x ∷ drop (i + 1) all
next all i x lt is = drop-cons all i x lt ∙ ap (λ p. get_or all i x ∷ drop p all) (sym (add-one i)) ∙ ap (λ y. y ∷ drop (i + 1) all) (sym is)

-- names parted at a place
abbrev parted_at : List (List ℕ) → Option ℕ → Option Parted
parted_at names None = None
parted_at names (Some at) = Some (record { before = take at names; behind = drop (suc at) names })

one_more : (n w : List ℕ) (names : List (List ℕ)) (at : Option ℕ) (same : Bool) → parted_with n names (parted_at names at) same ≡ parted_at (n ∷ names) (place_from at same)
one_more n w names (Some at) same = refl
one_more n w names None true = refl
one_more n w names None false = refl

-- they are parted at the last place where the name stands
pub parted_is : (w : List ℕ) (names : List (List ℕ)) → parted w names ≡ parted_at names (last_place w names)
parted_is w [] = refl
parted_is w (n ∷ names) = ap (λ p. parted_with n names p (bytes_eq w n)) (parted_is w names) ∙ one_more n w names (last_place w names) (bytes_eq w n)

-- what brings a wanted value, and then what follows for the names that are left
wanted_at : (sh : Shape) (place : Place) (names : List (List ℕ)) (done : ℕ) (rest : List (List ℕ) → List Cell) (at : Option ℕ)
    → put_code sh place names done (parted_at names at) rest ≡ wanted_code sh place names done at ++ rest (left_names names at)
wanted_at sh place names done rest None = refl
wanted_at sh place names done rest (Some at) =
    ap (λ depth. brought_code (up (length names + done) sh) place (depth + done) ++ rest (take at names ++ drop (suc at) names)) (length-drop (suc at) names)

pub wanted_step : (sh : Shape) (place : Place) (names : List (List ℕ)) (done : ℕ) (w : List ℕ) (rest : List (List ℕ) → List Cell)
    → put_code sh place names done (parted w names) rest ≡ wanted_code sh place names done (last_place w names) ++ rest (left_names names (last_place w names))
wanted_step sh place names done w rest = ap (λ p. put_code sh place names done p rest) (parted_is w names) ∙ wanted_at sh place names done rest (last_place w names)

-- so many values more, and more again
pub up_up : (a b : ℕ) (sh : Shape) → up b (up a sh) ≡ up (a + b) sh
up_up a b sh = ap (λ v. record sh { values = v }) (omega arith)

-- one value more was taken away
dropped_step : (sh : Shape) (place : Place) (k n : ℕ) (code : List Cell)
    → ((code ++ brought_code (up k (up (suc n) sh)) place (0 + k)) ++ cell (up k (up (suc n) sh)) place (instr.Op op.Pop) ∷ []) ++ dropped_code sh place k n ≡ code ++ dropped_code sh place k (suc n)
dropped_step sh place k n code =
    ap (λ depth. ((code ++ brought_code (up k (up (suc n) sh)) place depth) ++ cell (up k (up (suc n) sh)) place (instr.Op op.Pop) ∷ []) ++ dropped_code sh place k n) (omega arith)
    ∙ ap (λ x. ((code ++ brought_code x place k) ++ cell x place (instr.Op op.Pop) ∷ []) ++ dropped_code sh place k n) (up_up (suc n) k sh)
    ∙ append_assoc (code ++ brought_code (up (suc n + k) sh) place k) (cell (up (suc n + k) sh) place (instr.Op op.Pop) ∷ []) (dropped_code sh place k n)
    ∙ append_assoc code (brought_code (up (suc n + k) sh) place k) (cell (up (suc n + k) sh) place (instr.Op op.Pop) ∷ dropped_code sh place k n)

pub dropped_from : (sh : Shape) (place : Place) (k left : ℕ) (code brought popped total : List Cell) (before : Shape) → 0 < left → before ≡ up k (up left sh)
    → brought ≡ code ++ brought_code before place (0 + k) → popped ≡ brought ++ cell before place (instr.Op op.Pop) ∷ []
    → code ++ dropped_code sh place k left ≡ total → popped ++ dropped_code sh place k (left - 1) ≡ total
dropped_from sh place k zero code brought popped total before lt stands one two whole = absurd (omega (arith, lt))
dropped_from sh place k (suc n) code brought popped total before lt stands one two whole =
    ap (λ m. popped ++ dropped_code sh place k m) (omega arith)
    ∙ ap (λ c. c ++ dropped_code sh place k n) (two ∙ ap (λ c. c ++ cell before place (instr.Op op.Pop) ∷ []) one)
    ∙ ap (λ x. ((code ++ brought_code x place (0 + k)) ++ cell x place (instr.Op op.Pop) ∷ []) ++ dropped_code sh place k n) stands
    ∙ dropped_step sh place k n code ∙ whole

-- the last place of a name among names of which the first so many were looked at
abbrev pub later : (at : ℕ) → (found rest : Option ℕ) → Option ℕ
later at found None = found
later at found (Some k) = Some (at + k)

later_step : (at : ℕ) (found p : Option ℕ) (same : Bool) → later at found (place_from p same) ≡ later (at + 1) (found_with at found same) p
later_step at found (Some k) same = ap Some (omega arith)
later_step at found None true = ap Some (omega arith)
later_step at found None false = refl

found_within : (at : ℕ) (found : Option ℕ) (same : Bool) → IfSome found (λ k. k < at) → IfSome (found_with at found same) (λ k. k < at + 1)
found_within at found true within = omega arith
found_within at (Some k) false within = omega (arith, within)
found_within at None false within = within

-- the first so many names were looked at
abbrev pub LookedAt : (w : List ℕ) → (names : List (List ℕ)) → (at : ℕ) → (found : Option ℕ) → Type 0
LookedAt w names at found = (last_place w names ≡ later at found (last_place w (drop at names))) × IfSome found (λ k. k < at)

pub looked_at : (w : List ℕ) (names : List (List ℕ)) (at : ℕ) (found more : Option ℕ) (name : List ℕ) → at < length names → name ≡ get_or names at name
    → more ≡ found_with at found (bytes_eq w name) → LookedAt w names at found → LookedAt w names (at + 1) more
looked_at w names at found more name lt is more_is was = (
  was.0
      ∙ ap (λ rest. later at found (last_place w rest)) (next names at name lt is)
      ∙ later_step at found (last_place w (drop (at + 1) names)) (bytes_eq w name)
      ∙ ap (λ m. later (at + 1) m (last_place w (drop (at + 1) names))) (sym more_is),
  subst (λ m. IfSome m (λ k. k < at + 1)) (sym more_is) (found_within at found (bytes_eq w name) was.1),
)

pub within_all : (found : Option ℕ) (at n : ℕ) → at ≤ n → IfSome found (λ k. k < at) → IfSome found (λ k. k < n)
within_all None at n le within = within
within_all (Some k) at n le within = omega (arith, le, within)

-- one wanted value more was brought
pub arranged_from : (sh : Shape) (place : Place) (wanted : List (List ℕ)) (i : ℕ) (w : List ℕ) (names left : List (List ℕ)) (code more total : List Cell)
    → i < length wanted → w ≡ get_or wanted i []
    → more ≡ code ++ wanted_code sh place names i (last_place w names) → left ≡ left_names names (last_place w names)
    → code ++ arranged_code sh place (drop i wanted) names i ≡ total
    → more ++ arranged_code sh place (drop (i + 1) wanted) left (i + 1) ≡ total
arranged_from sh place wanted i w names left code more total lt is more_is left_is was =
    ap (λ m. m ++ arranged_code sh place rest left (i + 1)) more_is
    ∙ append_assoc code brought (arranged_code sh place rest left (i + 1))
    ∙ ap (λ x. code ++ x) (sym step) ∙ was
  where
    rest : List (List ℕ)
    rest = drop (i + 1) wanted

    brought : List Cell
    brought = wanted_code sh place names i (last_place w names)

    split : drop i wanted ≡ w ∷ rest
    split = drop-cons wanted i [] lt ∙ ap (λ p. get_or wanted i [] ∷ drop p wanted) (sym (add-one i)) ∙ ap (λ y. y ∷ rest) (sym is)

    step : arranged_code sh place (drop i wanted) names i ≡ brought ++ arranged_code sh place rest left (i + 1)
    step =
        ap (λ ws. arranged_code sh place ws names i) split
        ∙ wanted_step sh place names i w (λ others. arranged_code sh place rest others (suc i))
        ∙ ap (λ l. brought ++ arranged_code sh place rest l (suc i)) (sym left_is)
        ∙ ap (λ d. brought ++ arranged_code sh place rest left d) (sym (add-one i))
