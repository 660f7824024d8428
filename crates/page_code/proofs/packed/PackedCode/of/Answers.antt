use Rattle.std.proofs.Common.{sym, subst}
use Rattle.std.specs.Prelude.{All}
use Rattle.page_code.specs.Tables.{IsListed}
use Rattle.page_code.proofs.TableLemmas.{more_listed, more_packed}
use Rattle.page_code.proofs.packed.PackedCode.of.Goals as goal

pub loop-cell-preserved : goal.loop-cell-preserved
loop-cell-preserved c = record {
  cells =
      more_packed c.loop-cell.instrs.items c.step_of.new.instrs.items c.loop-cell.places.items c.step_of.new.places.items c.loop-cell.shapes.items c.step_of.new.shapes.items c.in-Some.cell
      c.in_ok-step_of.field-0 c.in_ok-step_of.ensures c.loop-cell.steps.items c.push.new.self.items c.next.new.self.rest.items c.loop-cell.cell-iterator.rest.items c.args.cells.items
      c.loop-cell.invariant.listed c.in_ok-push.ensures.items c.in-Some.ensures.steps.0 c.loop-cell.invariant.cells;
  listed =
      subst (All (IsListed c.step_of.new.instrs.items c.step_of.new.places.items c.step_of.new.shapes.items)) (sym c.in_ok-push.ensures.items)
      (more_listed c.loop-cell.instrs.items c.step_of.new.instrs.items c.loop-cell.places.items c.step_of.new.places.items c.loop-cell.shapes.items c.step_of.new.shapes.items c.in-Some.cell
      c.in_ok-step_of.field-0 c.in_ok-step_of.ensures c.loop-cell.steps.items c.loop-cell.invariant.listed);
}
