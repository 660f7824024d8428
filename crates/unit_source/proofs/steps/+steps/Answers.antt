use Rattle.std.proofs.Common.{arith}
use Rattle.unit_source.proofs.StepLemmas.{next_stepped}
use Rattle.unit_source.proofs.steps.+steps.Goals as goal

pub add_steps-loop-node-preserved : goal.add_steps-loop-node-preserved
add_steps-loop-node-preserved t c =
    next_stepped c.args.around c.args.nodes.now c.loop-node.node-index c.node-item.result _ _ _ (omega arith) c.node-item.is c.loop-node.invariant c.in_ok-add_node_steps.ensures
