-- An action of a unit as what it adds.
use Rattle.std.proofs.Common.{◌≡◌, ◌∙◌, ap, map, sym, Result, OnOk}
use Rattle.std.proofs.lemmas.Result.{on_ok_weaker}
use Rattle.act_reader.specs.Contents.{Adds, before}
use Rattle.act_reader.specs.declared.contents.Children.{Children as ChildrenMade}
use Rattle.unit_meaning.specs.Shape.{Children, children_of, with_action}
use Rattle.unit_nodes.proofs.NodeLemmas.{action_is}
use Rattle.unit_nodes.specs.Nodes.{Nodes, joined}
use Rattle.unit_nodes.specs.Views.{given_of, kind_of, node_of, nodes_of}
use Rattle.unit_nodes.specs.declared.unit.Action.{Action as Made}
use Rattle.unit_nodes.specs.declared.unit.UnitNode.{UnitNode}
use Rattle.unit_nodes.specs.declared.unit.UnitNode.TheVariants.{Action}

action_children : (a : Made) (node : UnitNode) (inner : Children) (rest : Nodes) → node ≡ Action a → inner ≡ children_of (nodes_of a.body.items)
    → with_action (kind_of a.kind) (map given_of a.attributes) a.has_body a.source a.place inner (children_of rest) ≡ children_of (joined (node_of node) rest)
action_children a node inner rest is made =
    ap (λ c. with_action (kind_of a.kind) (map given_of a.attributes) a.has_body a.source a.place c (children_of rest)) made
    ∙ sym (ap (λ nodes. children_of (joined nodes rest)) (ap node_of is ∙ action_is a))

pub action_added : {R E : Type 0} (r : Result R E) (old new : ChildrenMade) (a : Made) (node : UnitNode) (inner : Children) → node ≡ Action a → inner ≡ children_of (nodes_of a.body.items)
    → OnOk r (Adds old new (with_action (kind_of a.kind) (map given_of a.attributes) a.has_body a.source a.place inner))
    → OnOk r ((rest : Nodes) → before new (children_of rest) ≡ before old (children_of (joined (node_of node) rest)))
action_added r old new a node inner is made = on_ok_weaker r (λ next rest. next (children_of rest) ∙ ap (before old) (action_children a node inner rest is made))
