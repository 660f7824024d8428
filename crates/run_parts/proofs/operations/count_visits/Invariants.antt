use Rattle.std.proofs.Common.{Ok}
use Rattle.page_table.specs.Operations.{visits}
use Rattle.run_parts.proofs.operations.count_visits.Given as goal
use Rattle.run_world.specs.Part.{Doing}

abbrev pub invariant-loop-counted : goal.invariant-loop-counted
invariant-loop-counted g l = record {
  covered : g.W.World.covered l.world;
  counted : Doing g.W.World.reached g.W.World.replies (λ (u : Unit {0}). u) (λ place. visits place l._counted) l.initial.world l.world (Ok tt);
}
