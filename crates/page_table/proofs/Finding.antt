-- Each instruction of checked code finds what it takes.
use Rattle.std.proofs.Common.{◌≡◌, ℕ, ◌+◌, ◌<◌, ◌≤◌, List, length, Some, sym, ap, subst, arith}
use Rattle.std.specs.Prelude.{slice_get}
use Rattle.page_code.specs.Fits.{Carries, Takes, FitsCall, FitsLeave, FitsInstr}
use Rattle.page_code.specs.Ops.{takes, address_with}
use Rattle.page_code.specs.declared.call.CallOut.{CallOut}
use Rattle.page_code.specs.declared.call.CallOut.TheVariants as call
use Rattle.page_code.specs.declared.call.Leave.{Leave}
use Rattle.page_code.specs.declared.call.Leave.TheVariants as leave
use Rattle.page_code.specs.declared.code.Cell.{Cell}
use Rattle.page_code.specs.declared.instr.Instr.{Instr}
use Rattle.page_code.specs.declared.instr.Instr.TheVariants as instr
use Rattle.page_code.specs.declared.shape.Shape.{Shape}
use Rattle.page_table.specs.Checked.{SeatFits, HasShape, Stands}
use Rattle.page_table.specs.Finds.{CallFinds, LeaveFinds, Finds, EachFinds}
use Rattle.page_table.specs.Open.{Open}
use Rattle.page_table.specs.Seat.{Seat, code_of}
use Rattle.page_table.proofs.Fitting.{fit_at, carries_within, seat_code_fits}
use Rattle.page_table.proofs.Weights.{as_many}

module _ (code : List Cell) (base k pc : ℕ) (o : Open) (sh : Shape) (has : HasShape code base k o sh) where
  has_values : (n : ℕ) {Then : Shape → Type 0} → Takes n sh Then → n ≤ length o.stack
  has_values n f = omega (arith, has.values, ap (λ x. x.values) f.was)

  inside : (to : ℕ) (r : Shape) → Carries code to r → to < length code
  inside to r c = carries_within code to r c

  call_finds : (c : CallOut) → FitsCall code (pc + 1) sh c → CallFinds (length code) (pc + 1) o c
  call_finds (call.Tag c) f = (has_values (length c.names) f, inside _ f.rest f.next.2)
  call_finds call.Body f = inside (pc + 1) sh f
  call_finds (call.Fragment name) f = inside (pc + 1) sh f
  call_finds (call.Include flush params) f = (has_values (address_with params) f, inside (pc + 1) f.rest f.next)
  call_finds call.Import f = (has_values 1 f, inside (pc + 1) f.rest f.next)

  leave_finds : (how : Leave) → FitsLeave sh how → LeaveFinds o how
  leave_finds (leave.Forward params) f = has_values (address_with params) f
  leave_finds leave.Redirect f = has_values 1 f
  leave_finds leave.End f = tt

  pub instr_finds : (i : Instr) → FitsInstr code pc sh i → Finds (length code) pc k o i
  instr_finds (instr.Op op) f = (has_values (takes op) f, inside (pc + 1) _ f.next)
  instr_finds (instr.Take n) f = (omega (arith, has_values (n + 1) f), inside (pc + 1) sh f.next)
  instr_finds instr.StartBody f = inside (pc + 1) _ f
  instr_finds instr.TakeBody f = (omega (arith, has.bodies, ap (λ x. x.bodies) f.was), inside (pc + 1) _ f.next)
  instr_finds (instr.Jump n) f = inside (pc + 1 + n) sh f
  instr_finds (instr.JumpIf b n) f = (has_values 1 f, inside (pc + 1) f.rest f.next.0, inside (pc + 1 + n) f.rest f.next.1)
  instr_finds (instr.JumpNull n) f = (has_values 1 f, inside (pc + 1) sh f.next.0, inside (pc + 1 + n) f.rest f.next.1)
  instr_finds (instr.Ensure x bean n) f = (inside (pc + 1) sh f.0, inside (pc + 1 + n) sh f.1)
  instr_finds (instr.LoopStart kind) f = (has_values (length kind.names) f, inside (pc + 1) _ f.next)
  instr_finds (instr.LoopNext n) f = (omega (arith, has.loops, ap (λ x. x.loops) f.was), f.next.0, inside (pc + 1) f.rest f.next.1)
  instr_finds (instr.CatchStart n) f = (inside (pc + 1) _ f.0, inside (pc + 1 + n) _ f.1)
  instr_finds instr.CatchEnd f = (omega (arith, as_many code base o.catches sh.catches has.catches, ap (λ x. length x.catches) f.was), inside (pc + 1) f.rest f.next)
  instr_finds (instr.CallOut c) f = call_finds c f
  instr_finds (instr.Leave how) f = leave_finds how f

-- from a state that has its place's shape
pub cell_finds : (seat : Seat) (seated : SeatFits seat) (base pc k : ℕ) (o : Open) → Stands (code_of seat) base pc k o → (cell : Cell) → slice_get (code_of seat) pc ≡ Some cell
    → Finds (length (code_of seat)) pc k o cell.instr
cell_finds seat seated base pc k o stands cell e =
    let code = code_of seat in
    let c = stands.carries.cell in
    let h = stands.carries.stands in
    let same : c ≡ cell = cc in
    let f = fit_at code code 0 pc c (seat_code_fits seat seated).1 h in
    let from_zero : 0 + pc ≡ pc = omega arith in
    let fi : FitsInstr code pc c.shape c.instr = subst (λ m. FitsInstr code m c.shape c.instr) from_zero f.1 in
    subst (λ x. Finds (length code) pc k o x.instr) same
    (instr_finds code base k pc o c.shape (subst (HasShape code base k o) (sym stands.carries.shape) stands.has) c.instr fi)

pub each_finds : EachFinds
each_finds serving fits seat seated base pc s o stands cell e = cell_finds seat seated base pc (length s.writer.kept) o stands cell e
