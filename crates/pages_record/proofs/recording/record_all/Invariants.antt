use Rattle.std.proofs.Common.{◌≡◌, ◌≤◌, [], length}
use Rattle.pages_record.proofs.Chain.{SoFar}
use Rattle.pages_record.proofs.recording.record_all.Given as goal

-- the first connections were recorded, and the site that goes on is at its beginning
abbrev pub invariant-connections : goal.invariant-connections
invariant-connections g l = record {
  so_far : SoFar l.fn.site.opening l.input l.rest (g.K.Sink.taken l.fn.sink) (g.K.Sink.taken l.sink) l.fn.steps l.steps l.site.opening;
  one : l.site.opening.passes ≡ 1;
  at_start : l.site.history ≡ [];
  later : g.K.Sink.faults l.fn.sink ≤ g.K.Sink.faults l.sink;
}

abbrev pub decreases-connections : goal.decreases-connections
decreases-connections g l = length l.rest
