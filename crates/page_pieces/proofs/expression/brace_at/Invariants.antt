use Rattle.std.proofs.Common.{◌≤◌}
use Rattle.page_pieces.proofs.Expressions.Loop.{Scanned}
use Rattle.page_pieces.proofs.expression.brace_at.Given as goal

abbrev pub invariant-loop-i : goal.invariant-loop-i
invariant-loop-i l = record {
  scanned : Scanned l.text l.i l.state;
  depth : l.state.depth ≤ l.i;
}
