use Rattle.std.proofs.Common.{◌≡◌, length, map, take, Ok}
use Rattle.run_parts.proofs.ExportLemmas.{Making}
use Rattle.run_parts.proofs.exports.make_all.Given as goal
use Rattle.run_world.specs.Part.{Doing}
use Rattle.run_parts.specs.Exports.{change_of}

abbrev pub invariant-loop-change : goal.invariant-loop-change
invariant-loop-change g l = record {
  covered : g.W.World.covered l.world;
  made : Doing g.W.World.reached g.W.World.replies (λ (u : Unit {0}). u) (Making (map change_of (take l.change-index l.changes))) l.initial.world l.world (Ok tt);
  frames : length (g.W.World.variables l.world).frames ≡ length (g.W.World.variables l.initial.world).frames;
}
