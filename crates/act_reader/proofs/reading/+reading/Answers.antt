use Rattle.std.proofs.Common.{◌∙◌, ap, arith, sym}
use Rattle.std.proofs.lemmas.List.{at_drop_all}
use Rattle.act_reader.specs.Contents.{before}
use Rattle.unit_meaning.specs.Shape.{children_of}
use Rattle.unit_nodes.specs.Views.{nodes_of}
use Rattle.act_reader.proofs.ContentLemmas.{before_nothing}
use Rattle.act_reader.proofs.ReadingLemmas.{action_added}
use Rattle.act_reader.proofs.reading.+reading.Goals as goal

pub add_node-returns-in_ok-inner-in-Action : goal.add_node-returns-in_ok-inner-in-Action
add_node-returns-in_ok-inner-in-Action t c =
    action_added _ c.args.children.now c.add_action.new.children c.in-Action.action c.args.node.now _ c.in-Action.is
    (c.in_ok-inner-in-Action.ensures ∙ ap (λ nodes. children_of (nodes_of nodes)) c.deref.ensures.value) c.add_action.ensures

pub children_in-returns : goal.children_in-returns
children_in-returns t c =
    sym (before_nothing c.loop-node.children)
    ∙ sym (at_drop_all (λ nodes. before c.loop-node.children (children_of (nodes_of nodes))) c.args.nodes.now c.loop-node.node-index (omega arith))
    ∙ c.loop-node.invariant
