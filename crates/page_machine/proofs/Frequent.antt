-- A frequent operation is a turn of a run.
use Rattle.std.proofs.Common.{◌≡◌, ◌+◌, ℕ, List, Ok, Err}
use Rattle.std.specs.Prelude.{Some, slice_get}
use Rattle.page_code.specs.declared.code.Cell.{Cell}
use Rattle.page_code.specs.declared.instr.Instr.TheVariants as instr
use Rattle.page_code.specs.declared.op.Op.{Op}
use Rattle.page_machine.proofs.CallExits.{acted_stepped}
use Rattle.page_machine.proofs.Looping.{move_is}
use Rattle.page_machine.specs.Turn.{Stepped}
use Rattle.page_meaning.specs.State.{State}
use Rattle.page_table.specs.Act.{act, move_of}
use Rattle.page_table.specs.Open.{Open}
use Rattle.page_table.specs.Program.{Serving}
use Rattle.page_table.specs.Seat.{Seat, code_of}
use Rattle.pg_text.specs.declared.failure.Failure.{Failure}
use Rattle.pg_text.specs.declared.failure.Failure.TheVariants as failure
use Rattle.pg_value.specs.declared.fault.RunFault.{RunFault}
use Rattle.run_moves.proofs.Acts.{acted_as}
use Rattle.run_moves.proofs.QuickExits.{led_off, led_on}
use Rattle.run_moves.specs.Acted.{Acted}
use Rattle.run_moves.specs.Landing.{failing}
use Rattle.run_moves.specs.Quick.{LandsSo}
use Rattle.run_moves.specs.declared.flow.End.TheVariants as ends
use Rattle.run_moves.specs.declared.flow.Flow.{Flow}
use Rattle.run_moves.specs.declared.flow.Flow.TheVariants as flows
use Rattle.run_world.specs.Origin.{Origin}
use Rattle.site_words.specs.Law.{Answer}

module _ {W : Type 0} {reached : W → Origin → W → State → Type 0} {replies : W → List Answer} {serves : W → Serving → Type 0} (seat : Seat) (pc : ℕ) (o : Open) (cell : Cell) (op : Op)
    (here : slice_get (code_of seat) pc ≡ Some cell) (is : cell.instr ≡ instr.Op op) (old mid : W) (o2 : Open) where
  -- what the operation did at its place was the move of the place
  moved : (new : W) (o3 : Open) (flow : Flow) → ((serving : Serving) → Acted reached replies (λ s. act serving seat cell.place pc s o (instr.Op op)) old new o3 flow)
      → Stepped reached replies serves seat (λ serving s. move_of serving seat pc s o) old new o3 flow
  moved new o3 flow acted =
      acted_stepped seat (λ serving s. move_of serving seat pc s o) old new o3 flow
      (λ serving h.
      acted_as (λ s. move_of serving seat pc s o) (λ s. act serving seat cell.place pc s o (instr.Op op)) old new o3 flow (λ s. move_is serving seat pc s o cell (instr.Op op) here is) (acted serving))

  -- it goes on
  pub went_on : (done : Unit {0}) → ((serving : Serving) → LandsSo reached replies (λ place pc s. act serving seat place pc s o (instr.Op op)) old mid o2 (Ok done))
      → Stepped reached replies serves seat (λ serving s. move_of serving seat pc s o) old mid o2 (flows.Go (pc + 1))
  went_on done lands = moved mid o2 (flows.Go (pc + 1)) (λ serving. led_on (λ place pc s. act serving seat place pc s o (instr.Op op)) old mid o2 done cell.place pc (lands serving))

  -- or falls where its fault leads
  pub fell_off : (failed : Failure RunFault) (new : W) (o3 : Open) (flow : Flow) → ((serving : Serving) → LandsSo reached replies (λ place pc s. act serving seat place pc s o (instr.Op op)) old mid o2 (Err failed))
      → Acted reached replies (failing cell.place o2 failed) mid new o3 flow → (failed ≡ failure.NoMemory → (flow ≡ flows.Over ends.NoMemory) × (new ≡ mid))
      → Stepped reached replies serves seat (λ serving s. move_of serving seat pc s o) old new o3 flow
  fell_off failed new o3 flow lands acted short =
      moved new o3 flow (λ serving. led_off (λ place pc s. act serving seat place pc s o (instr.Op op)) old mid new o2 o3 failed flow cell.place pc (lands serving) acted short)
