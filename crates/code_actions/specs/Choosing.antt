-- The branches of a choice, each as its code.
use Rattle.std.specs.Prelude.{ℕ, ◌+◌, false, List, [], ◌∷◌, ◌++◌, codes, length}
use Rattle.code_actions.specs.declared.choosing.TestedBranch.{TestedBranch}
use Rattle.page_code.specs.Shapes.{cell, up}
use Rattle.page_code.specs.declared.code.Cell.{Cell}
use Rattle.page_code.specs.declared.instr.Instr.TheVariants as instr
use Rattle.page_code.specs.declared.shape.Shape.{Shape}
use Rattle.code_forms.specs.Codes.{arranged_code}
use Rattle.pg_text.specs.declared.place.Place.{Place}

-- a test, behind the values of its attributes, and a body, which the test passes over with the cell behind it where it is false
abbrev pub when_code : Shape → Place → (names : List (List ℕ)) → (body : List Cell) → List Cell
when_code sh place names body = arranged_code sh place (codes "test" ∷ []) names 0 ++ cell (up 1 sh) place (instr.JumpIf false (length body + 1)) ∷ body

-- branches with a test, before another code: behind each stands a jump over all that is behind it
abbrev pub before : Shape → List TestedBranch → (last : List Cell) → List Cell
before sh [] last = last
before sh (w ∷ rest) last = w.code ++ cell (up 0 sh) w.place (instr.Jump (length (before sh rest last))) ∷ before sh rest last

-- how many cells these have before so many
abbrev pub size_before : List TestedBranch → ℕ → ℕ
size_before [] n = n
size_before (w ∷ rest) n = length w.code + 1 + size_before rest n
