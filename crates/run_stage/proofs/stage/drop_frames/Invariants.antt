use Rattle.std.proofs.Common.{◌≡◌, ◌≤◌, length, take}
use Rattle.run_stage.proofs.stage.drop_frames.Given as goal

abbrev pub decreases-loop-scopes : goal.decreases-loop-scopes
decreases-loop-scopes l = length l.scopes.frames

abbrev pub invariant-loop-scopes : goal.invariant-loop-scopes
invariant-loop-scopes l = record {
  front : l.scopes.frames ≡ take (length l.scopes.frames) l.initial.scopes.frames;
  fewer : length l.scopes.frames ≤ length l.initial.scopes.frames;
  left : l.frames ≤ length l.scopes.frames;
  request : l.scopes.request ≡ l.initial.scopes.request;
  session : l.scopes.session ≡ l.initial.scopes.session;
}
