-- The nodes of a unit that has no fault.
use Rattle.std.specs.Prelude.{Bool, true, false, List, [], ◌∷◌, ◌++◌, map, Result, Ok, Err}
use Rattle.pg_text.specs.declared.place.Place.{Place}
use Rattle.page_pieces.specs.declared.attribute.Attribute.{Attribute}
use Rattle.page_pieces.specs.declared.attribute.Part.{Part}
use Rattle.page_pieces.specs.declared.attribute.Part.TheVariants as parts
use Rattle.page_reader.specs.declared.node.Closing.{Closing}
use Rattle.page_reader.specs.declared.node.Closing.TheVariants as closings
use Rattle.page_pieces.specs.declared.piece.Leaf.{Leaf}
use Rattle.page_pieces.specs.declared.piece.Leaf.TheVariants as leaves
use Rattle.page_reader.specs.Trees.{Opened}
use Rattle.el_reader.specs.declared.fault.ElFault.{ElFault}
use Rattle.el_reader.specs.ExpressionOf.{expression_of}
use Rattle.el_reader.specs.Tree.{Tree}
use Rattle.page_directives.specs.Directive.{Directive}
use Rattle.unit_source.specs.InPlace.{InPlace, done, leaf, element, broken, included}
use Rattle.unit_words.specs.Kinds.{Kind, kind_of}
use Rattle.unit_words.specs.Kinds as kind
use Rattle.unit_nodes.specs.Nodes as node
use Rattle.unit_nodes.specs.Nodes.{Nodes, Given, ActionKind, Action}

-- a part of a value; `#{` and what is no expression have a fault
abbrev pub expression_part : Result Tree ElFault → List node.Part
expression_part (Ok tree) = node.expression tree ∷ []
expression_part (Err fault) = []

abbrev pub part_of : Part → List node.Part
part_of (parts.Text text) = node.words text ∷ []
part_of (parts.Expr text) = expression_part (expression_of text)
part_of parts.Hash = []

abbrev pub parts_of : List Part → List node.Part
parts_of [] = []
parts_of (p ∷ ps) = part_of p ++ parts_of ps

abbrev pub given_of : Attribute → Given
given_of a = record { name = a.name; parts = parts_of a.parts; place = a.place }

abbrev pub has_body : Closing → Bool
has_body closings.Empty = false
has_body _ = true

abbrev pub action_of : ActionKind → Opened → Action
action_of k opened = record { kind = k; attributes = map given_of opened.tag.attributes; has_body = has_body opened.closing; source = opened.source; place = opened.place }

-- an element with these nodes as its body, before others; an element with a fault is none
abbrev pub element_before : Kind → Opened → Nodes → Nodes → Nodes
element_before (kind.core found) opened body next = node.action (action_of (node.core found.0) opened) body next
element_before (kind.standard found) opened body next = node.action (action_of (node.standard found.0) opened) body next
element_before (kind.call path) opened body next = node.action (action_of (node.call path) opened) body next
element_before _ opened body next = next

abbrev pub shown_before : Result Tree ElFault → Place → Nodes → Nodes
shown_before (Ok tree) place next = node.shown tree place next
shown_before (Err fault) place next = next

-- comments and directives leave nothing
abbrev pub leaf_before : Leaf → Place → Nodes → Nodes
leaf_before (leaves.Text text) place next = node.template text place next
leaf_before (leaves.Expr text) place next = shown_before (expression_of text) place next
leaf_before _ place next = next

-- the nodes of a page or tag file with these directives
abbrev pub built : List Directive → InPlace → Nodes
built directives done = node.done
built directives (leaf kind place next) = leaf_before kind place (built directives next)
built directives (element opened body next) = element_before (kind_of directives opened.tag) opened (built directives body) (built directives next)
built directives (broken fault next) = built directives next
built directives (included d entry body next) = node.joined (built directives body) (built directives next)
