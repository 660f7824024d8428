use Rattle.std.proofs.Common.{arith}
use Rattle.unit_source.proofs.OrderLemmas.{next_ordered}
use Rattle.unit_source.proofs.reading_order.+order.Goals as goal

pub add_directives-loop-node-preserved : goal.add_directives-loop-node-preserved
add_directives-loop-node-preserved t c =
    next_ordered c.args.nodes.now c.loop-node.node-index c.node-item.result _ _ _ (omega arith) c.node-item.is c.loop-node.invariant c.in_ok-add_node_directives.ensures
