-- When the shapes that a code carries fit.
use Rattle.std.specs.Prelude.{◌≡◌, ℕ, ◌+◌, ◌-◌, ◌≤◌, List, [], ◌∷◌, length, Some, slice_get, ⊤}
use Rattle.page_code.specs.declared.call.CallBody.{CallBody}
use Rattle.page_code.specs.declared.call.CallBody.TheVariants as body
use Rattle.page_code.specs.declared.call.CallOut.{CallOut}
use Rattle.page_code.specs.declared.call.CallOut.TheVariants as call
use Rattle.page_code.specs.declared.call.Fragment.{Fragment}
use Rattle.page_code.specs.declared.call.Leave.{Leave}
use Rattle.page_code.specs.declared.call.Leave.TheVariants as leave
use Rattle.page_code.specs.declared.code.Cell.{Cell}
use Rattle.page_code.specs.declared.instr.Instr.{Instr}
use Rattle.page_code.specs.declared.instr.Instr.TheVariants as instr
use Rattle.page_code.specs.declared.shape.Level.{Level}
use Rattle.page_code.specs.declared.shape.Shape.{Shape}
use Rattle.page_code.specs.Calls.{body_size, call_size}
use Rattle.page_code.specs.Ops.{takes, leaves, address_with}
use Rattle.page_code.specs.Shapes.{empty_shape, up, keeping, looping, trying}

-- the place is in the code, and carries this shape
pub record Carries (code : List Cell) (pc : ℕ) (sh : Shape) : Type 0 where
  pub cell : Cell
  pub stands : slice_get code pc ≡ Some cell
  pub shape : cell.shape ≡ sh

-- as much stands open as where the innermost of these catches began
abbrev pub Above : List Level → Shape → Type 0
Above [] sh = ⊤
Above (c ∷ rest) sh = (c.values ≤ sh.values) × (c.bodies ≤ sh.bodies) × (c.loops ≤ sh.loops)

-- nothing is open below what the innermost open catch cuts back to
abbrev pub Roomy : Shape → Type 0
Roomy sh = Above sh.catches sh

-- so many values are there above the innermost open catch, and this holds of what is left without them
pub record Takes (n : ℕ) (sh : Shape) (Then : Shape → Type 0) : Type 0 where
  pub rest : Shape
  pub was : sh ≡ up n rest
  pub roomy : Roomy rest
  pub next : Then rest

-- what was opened last is there, and this holds of what is left without it
pub record Closes (sh : Shape) (opened : Shape → Shape) (Then : Shape → Type 0) : Type 0 where
  pub rest : Shape
  pub was : sh ≡ opened rest
  pub next : Then rest

-- the body of a call begins with the empty shape
abbrev pub BodyBegins : List Cell → ℕ → CallBody → Type 0
BodyBegins code at body.Absent = ⊤
BodyBegins code at (body.Source text) = ⊤
BodyBegins code at (body.Cells n) = Carries code at empty_shape

-- fragments that stand one after the other each begin with the empty shape
abbrev pub FragmentsBegin : List Cell → ℕ → List Fragment → Type 0
FragmentsBegin code at [] = ⊤
FragmentsBegin code at (f ∷ rest) = Carries code at empty_shape × FragmentsBegin code (at + f.size) rest

-- a call finds the values that it takes, what it hands down begins with the empty shape, and what is left stands where it goes on
abbrev pub FitsCall : List Cell → ℕ → Shape → CallOut → Type 0
FitsCall code next sh (call.Tag c) =
    Takes (length c.names) sh (λ r. BodyBegins code next c.body × FragmentsBegin code (next + body_size c.body) c.fragments × Carries code (next + call_size c) r)
FitsCall code next sh call.Body = Carries code next sh
FitsCall code next sh (call.Fragment name) = Carries code next sh
FitsCall code next sh (call.Include flush params) = Takes (address_with params) sh (Carries code next)
FitsCall code next sh call.Import = Takes 1 sh (Carries code next)

-- an end finds the values that it takes; the end of a code leaves nothing open
abbrev pub FitsLeave : Shape → Leave → Type 0
FitsLeave sh (leave.Forward params) = Takes (address_with params) sh (λ r. ⊤)
FitsLeave sh leave.Redirect = Takes 1 sh (λ r. ⊤)
FitsLeave sh leave.End = sh ≡ empty_shape

-- an instruction finds what it takes, and each place to which it may go carries what it leaves
abbrev pub FitsInstr : List Cell → ℕ → Shape → Instr → Type 0
FitsInstr code pc sh (instr.Op o) = Takes (takes o) sh (λ r. Carries code (pc + 1) (up (leaves o) r))
FitsInstr code pc sh (instr.Take below) = Takes (below + 1) sh (λ r. Carries code (pc + 1) sh)
FitsInstr code pc sh instr.StartBody = Carries code (pc + 1) (keeping sh)
FitsInstr code pc sh instr.TakeBody = Closes sh keeping (λ r. Carries code (pc + 1) (up 1 r))
FitsInstr code pc sh (instr.Jump n) = Carries code (pc + 1 + n) sh
FitsInstr code pc sh (instr.JumpIf t n) = Takes 1 sh (λ r. Carries code (pc + 1) r × Carries code (pc + 1 + n) r)
FitsInstr code pc sh (instr.JumpNull n) = Takes 1 sh (λ r. Carries code (pc + 1) sh × Carries code (pc + 1 + n) r)
FitsInstr code pc sh (instr.Ensure x bean n) = Carries code (pc + 1) sh × Carries code (pc + 1 + n) sh
FitsInstr code pc sh (instr.LoopStart k) = Takes (length k.names) sh (λ r. Carries code (pc + 1) (looping r))
FitsInstr code pc sh (instr.LoopNext n) = Closes sh looping (λ r. (n ≤ pc) × Carries code (pc + 1) r × Carries code (pc - n) sh)
FitsInstr code pc sh (instr.CatchStart n) = Carries code (pc + 1) (trying sh) × Carries code (pc + 1 + n) (up 1 sh)
FitsInstr code pc sh instr.CatchEnd = Closes sh trying (Carries code (pc + 1))
FitsInstr code pc sh (instr.CallOut c) = FitsCall code (pc + 1) sh c
FitsInstr code pc sh (instr.Leave l) = FitsLeave sh l

-- the cells from a place on: each is roomy, and its instruction fits
abbrev pub AllFit : List Cell → ℕ → List Cell → Type 0
AllFit code pc [] = ⊤
AllFit code pc (c ∷ rest) = (Roomy c.shape × FitsInstr code pc c.shape c.instr) × AllFit code (pc + 1) rest

-- the shapes of a code fit, and the first is empty
abbrev pub CodeFits : List Cell → Type 0
CodeFits code = Carries code 0 empty_shape × AllFit code 0 code
