use Rattle.std.proofs.Common.{◌≤◌, ◌<◌, ◌-◌, length}
use Rattle.http_in.specs.declared.limits.TheConstants.{MAX_HEAD_BYTES, MAX_PIECE_BYTES}
use Rattle.http_in.specs.Reading.{Moves}
use Rattle.http_in.proofs.Near.{IsNear}
use Rattle.http_in.proofs.read.read_head.Given as goal

-- nothing is lost, little was read on, and the source has not changed its ways
abbrev pub invariant-fill : goal.invariant-fill
invariant-fill g l = record {
  moved : Moves (g.S.Source.left l.fn.source) (g.S.Source.left l.source) l.fn.rest l.rest;
  near : length l.fn.rest < MAX_PIECE_BYTES → IsNear l.rest;
  later : g.S.Source.faults l.fn.source ≤ g.S.Source.faults l.source;
  unfailing : g.S.Source.unfailing l.fn.source → g.S.Source.unfailing l.source;
}

abbrev pub decreases-fill : goal.decreases-fill
decreases-fill g l = MAX_HEAD_BYTES - length l.rest
