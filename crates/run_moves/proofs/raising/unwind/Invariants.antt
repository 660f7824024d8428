use Rattle.std.proofs.Common.{◌≡◌, length}
use Rattle.run_moves.proofs.Unwinding.{Unwound}
use Rattle.run_moves.proofs.raising.unwind.Given as goal

abbrev pub decreases-loop-loops : goal.decreases-loop-loops
decreases-loop-loops g l = length l.loops

abbrev pub invariant-loop-loops : goal.invariant-loop-loops
invariant-loop-loops g l = record {
  covered : g.W.World.covered l.world;
  ended : Unwound g.W.World.reached l.left l.initial.loops l.initial.world l.world l.loops;
  replies : g.W.World.replies l.world ≡ g.W.World.replies l.initial.world;
}
