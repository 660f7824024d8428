use Rattle.std.proofs.Common.{◌≡◌, ◌++◌}
use Rattle.page_code.proofs.sharing.sharing_with.Given as goal

abbrev pub invariant-loop-cell : goal.invariant-loop-cell
invariant-loop-cell l = l.made.items ++ l.cell-iterator.rest.items ≡ l.fn.cells.items
