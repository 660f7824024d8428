use Rattle.std.proofs.Common.{◌∙◌, sym, arith}
use Rattle.std.proofs.lemmas.List.{at_drop_all}
use Rattle.unit_source.specs.Placed.{in_place}
use Rattle.unit_words.specs.Build.{built}
use Rattle.unit_nodes.specs.Nodes.{joined}
use Rattle.unit_nodes.specs.Views.{nodes_of}
use Rattle.unit_nodes.proofs.NodeLemmas.{joined_done}
use Rattle.unit_build.proofs.BuiltLemmas.{next_built}
use Rattle.unit_build.proofs.nodes.+building.Goals as goal

pub add_nodes-loop-node-preserved : goal.add_nodes-loop-node-preserved
add_nodes-loop-node-preserved t c =
    next_built c.args.directives.now c.args.nodes.now c.loop-node.node-index c.node-item.result _ _ _ (omega arith) c.node-item.is c.loop-node.invariant c.in_ok-add_node.ensures

pub add_nodes-returns : goal.add_nodes-returns
add_nodes-returns t c =
    let made = nodes_of c.loop-node.made.items in
    sym (joined_done made) ∙ sym (at_drop_all (λ ns. joined made (built c.args.directives.now (in_place ns))) c.args.nodes.now c.loop-node.node-index (omega arith)) ∙ c.loop-node.invariant
