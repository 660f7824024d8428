use Rattle.std.proofs.Common.{◌≡◌, ◌≤◌, ◌<◌, ◌-◌, length}
use Rattle.http_in.specs.declared.limits.TheConstants.{MAX_PIECE_BYTES}
use Rattle.conversation.specs.declared.limits.TheConstants.{MAX_REQUESTS}
use Rattle.conversation.proofs.WalkLemmas.{IsSoFar}
use Rattle.conversation.proofs.walking.walk.Given as goal

-- what was read, answered and written so far, and that no count has fallen; how far was read on; and whether the source may fail
abbrev pub invariant-requests : goal.invariant-requests
invariant-requests g l = record {
  ready : g.D.Desk.ready l.number l.desk l.port l.clock l.count;
  world : g.D.Desk.world l.desk l.port l.clock l.count ≡ g.D.Desk.world l.fn.desk l.fn.port l.fn.clock l.fn.count;
  so_far : IsSoFar (g.D.Desk.serves (g.D.Desk.world l.fn.desk l.fn.port l.fn.clock l.fn.count)) (g.D.Desk.state l.fn.desk l.fn.port l.fn.clock l.fn.count) (g.D.Desk.state l.desk l.port l.clock l.count) (g.S.Source.left l.fn.source) (g.S.Source.left l.source) (g.K.Sink.taken l.fn.sink) (g.K.Sink.taken l.sink) l.rest l.number;
  read : g.S.Source.faults l.fn.source ≤ g.S.Source.faults l.source;
  wrote : g.K.Sink.faults l.fn.sink ≤ g.K.Sink.faults l.sink;
  number : l.number < MAX_REQUESTS;
  read_on : length l.rest < MAX_PIECE_BYTES;
  unfailing : g.S.Source.unfailing l.fn.source → g.S.Source.unfailing l.source;
}

abbrev pub decreases-requests : goal.decreases-requests
decreases-requests g l = MAX_REQUESTS - l.number
