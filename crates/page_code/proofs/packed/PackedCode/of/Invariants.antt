use Rattle.std.proofs.Common.{◌≡◌, ◌++◌}
use Rattle.std.specs.Prelude.{All}
use Rattle.page_code.specs.Tables.{IsListed, step_cells}
use Rattle.page_code.proofs.packed.PackedCode.of.Given as goal

-- the steps so far, before the cells that are left, are the whole, and have their numbers in the tables
abbrev pub invariant-loop-cell : goal.invariant-loop-cell
invariant-loop-cell l = record {
  cells : step_cells l.instrs.items l.places.items l.shapes.items l.steps.items ++ l.cell-iterator.rest.items ≡ l.fn.cells.items;
  listed : All (IsListed l.instrs.items l.places.items l.shapes.items) l.steps.items;
}
