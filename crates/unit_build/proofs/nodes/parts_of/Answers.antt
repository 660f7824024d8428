use Rattle.std.proofs.Common.{arith}
use Rattle.unit_build.proofs.BuiltLemmas.{next_part}
use Rattle.unit_build.proofs.nodes.parts_of.Goals as goal

pub loop-part-preserved : goal.loop-part-preserved
loop-part-preserved c = next_part c.args.written.now c.loop-part.part-index c.part-item.result _ _ _ (omega arith) c.part-item.is c.loop-part.invariant c.in_ok-add_part.ensures
