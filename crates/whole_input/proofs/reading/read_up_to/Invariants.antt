use Rattle.std.proofs.Common.{◌≤◌, ◌-◌, ◌+◌, [], length}
use Rattle.whole_input.specs.Come.{Grows}
use Rattle.whole_input.proofs.reading.read_up_to.Given as goal

-- what came stands there, and the source has not changed its ways
abbrev pub invariant-fill : goal.invariant-fill
invariant-fill g l = record {
  grows : Grows (g.S.Source.left l.fn.source) (g.S.Source.left l.source) [] l.bytes.items;
  later : g.S.Source.faults l.fn.source ≤ g.S.Source.faults l.source;
  unfailing : g.S.Source.unfailing l.fn.source → g.S.Source.unfailing l.source;
}

abbrev pub decreases-fill : goal.decreases-fill
decreases-fill g l = (l.most + 1) - length l.bytes.items
