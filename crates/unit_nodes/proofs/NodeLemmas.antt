-- The nodes of a unit, one after the other.
use Rattle.std.proofs.Common.{◌≡◌, List, [], ◌∷◌, ◌++◌, map, refl, ap, sym, ◌∙◌, rules}
use mathlib.Core.Former.{Count}
use Rattle.unit_nodes.specs.declared.unit.Action.{Action as Made}
use Rattle.unit_nodes.specs.declared.unit.UnitNode.{UnitNode, Row_of-UnitNode, end_of-UnitNode, more_of-UnitNode, items-the_row-UnitNode}
use Rattle.unit_nodes.specs.declared.unit.UnitNode.TheViews.{the_lemmas}
use Rattle.unit_nodes.specs.declared.unit.UnitNode.TheVariants.{Action}
use Rattle.unit_nodes.specs.Nodes.{Nodes, joined, template, shown, action}
use Rattle.unit_nodes.specs.Nodes as nodes
use Rattle.unit_nodes.specs.Views.{given_of, kind_of as kind_view, node_of, nodes_of, row_of}

pub joined_done : (a : Nodes) → joined a nodes.done ≡ a
joined_done nodes.done = refl
joined_done (template text place next) = ap (template text place) (joined_done next)
joined_done (shown tree place next) = ap (shown tree place) (joined_done next)
joined_done (action a body next) = ap (action a body) (joined_done next)

pub joined_assoc : (a b c : Nodes) → joined (joined a b) c ≡ joined a (joined b c)
joined_assoc nodes.done b c = refl
joined_assoc (template text place next) b c = ap (template text place) (joined_assoc next b c)
joined_assoc (shown tree place next) b c = ap (shown tree place) (joined_assoc next b c)
joined_assoc (action a body next) b c = ap (action a body) (joined_assoc next b c)

-- one more node at the end
pub nodes_push : (made : List UnitNode) (node : UnitNode) → nodes_of (made ++ node ∷ []) ≡ joined (nodes_of made) (node_of node)
nodes_push [] node = joined_done (node_of node)
nodes_push (first ∷ made) node = ap (joined (node_of first)) (nodes_push made node) ∙ sym (joined_assoc (node_of first) (nodes_of made) (node_of node))

-- a row of nodes as a list
row_is : (n : Count) (row : Row_of-UnitNode n) → row_of row ≡ nodes_of (items-the_row-UnitNode n row)
row_is _ end_of-UnitNode = refl
row_is _ (more_of-UnitNode node rest) = ap (joined (node_of node)) (row_is _ rest)

-- an action as a node
pub action_is : (a : Made)
    → node_of (Action a) ≡ action (record { kind = kind_view a.kind; attributes = map given_of a.attributes; has_body = a.has_body; source = a.source; place = a.place }) (nodes_of a.body.items) nodes.done
action_is a = search (rules, the_lemmas, row_is)
