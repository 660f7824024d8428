-- What an instruction of checked code finds: what it takes stands there, and where it may go is in the code.
use Rattle.std.specs.Prelude.{◌≡◌, ℕ, ◌+◌, ◌<◌, ◌≤◌, length, Some, slice_get, ⊤}
use Rattle.page_code.specs.Calls.{call_size}
use Rattle.page_code.specs.Ops.{takes, address_with}
use Rattle.page_code.specs.declared.call.CallOut.{CallOut}
use Rattle.page_code.specs.declared.call.CallOut.TheVariants as call
use Rattle.page_code.specs.declared.call.Leave.{Leave}
use Rattle.page_code.specs.declared.call.Leave.TheVariants as leave
use Rattle.page_code.specs.declared.code.Cell.{Cell}
use Rattle.page_code.specs.declared.instr.Instr.{Instr}
use Rattle.page_code.specs.declared.instr.Instr.TheVariants as instr
use Rattle.page_table.specs.Laws.{OfEachStand}
use Rattle.page_table.specs.Open.{Open}
use Rattle.page_table.specs.Seat.{code_of}

-- a call finds the values that it takes, and goes on inside the code
abbrev pub CallFinds : (cells next : ℕ) → Open → CallOut → Type 0
CallFinds cells next o (call.Tag c) = (length c.names ≤ length o.stack) × (next + call_size c < cells)
CallFinds cells next o call.Body = next < cells
CallFinds cells next o (call.Fragment name) = next < cells
CallFinds cells next o (call.Include flush params) = (address_with params ≤ length o.stack) × (next < cells)
CallFinds cells next o call.Import = (1 ≤ length o.stack) × (next < cells)

-- an end finds the values that it takes
abbrev pub LeaveFinds : Open → Leave → Type 0
LeaveFinds o (leave.Forward params) = address_with params ≤ length o.stack
LeaveFinds o leave.Redirect = 1 ≤ length o.stack
LeaveFinds o leave.End = ⊤

-- an instruction finds values, a kept body, a loop or a catch, and each place to which it may go is one of so many cells
abbrev pub Finds : (cells pc kept : ℕ) → Open → Instr → Type 0
Finds cells pc kept o (instr.Op op) = (takes op ≤ length o.stack) × (pc + 1 < cells)
Finds cells pc kept o (instr.Take n) = (n < length o.stack) × (pc + 1 < cells)
Finds cells pc kept o instr.StartBody = pc + 1 < cells
Finds cells pc kept o instr.TakeBody = (1 ≤ kept) × (pc + 1 < cells)
Finds cells pc kept o (instr.Jump n) = pc + 1 + n < cells
Finds cells pc kept o (instr.JumpIf b n) = (1 ≤ length o.stack) × (pc + 1 < cells) × (pc + 1 + n < cells)
Finds cells pc kept o (instr.JumpNull n) = (1 ≤ length o.stack) × (pc + 1 < cells) × (pc + 1 + n < cells)
Finds cells pc kept o (instr.Ensure x bean n) = (pc + 1 < cells) × (pc + 1 + n < cells)
Finds cells pc kept o (instr.LoopStart kind) = (length kind.names ≤ length o.stack) × (pc + 1 < cells)
Finds cells pc kept o (instr.LoopNext n) = (1 ≤ length o.loops) × (n ≤ pc) × (pc + 1 < cells)
Finds cells pc kept o (instr.CatchStart n) = (pc + 1 < cells) × (pc + 1 + n < cells)
Finds cells pc kept o instr.CatchEnd = (1 ≤ length o.catches) × (pc + 1 < cells)
Finds cells pc kept o (instr.CallOut c) = CallFinds cells (pc + 1) o c
Finds cells pc kept o (instr.Leave how) = LeaveFinds o how

-- each instruction of checked code finds what it takes
abbrev pub EachFinds : Type 0
EachFinds = OfEachStand (λ serving seat base pc s o. (cell : Cell) → slice_get (code_of seat) pc ≡ Some cell → Finds (length (code_of seat)) pc (length s.writer.kept) o cell.instr)
