-- The directives of nodes in place, in reading order.
use Rattle.std.proofs.Common.{◌≡◌, ◌<◌, ◌+◌, ℕ, List, [], ◌∷◌, ◌++◌, refl, ap, sym, ◌∙◌, append_assoc, length, drop, get_or, add-one, drop-cons}
use Rattle.std.proofs.lemmas.List.{append-nil}
use Rattle.page_pieces.specs.declared.piece.Leaf.TheVariants as leaves
use Rattle.page_directives.specs.Directive.{Directive}
use Rattle.unit_source.specs.declared.placed.PlacedNode.{PlacedNode}
use Rattle.unit_source.specs.declared.placed.PlacedNode.TheVariants.{Element, Included}
use Rattle.unit_source.specs.declared.placed.PlacedElement.{PlacedElement}
use Rattle.unit_source.specs.declared.placed.PlacedInclude.{PlacedInclude}
use Rattle.unit_source.specs.First.{directive}
use Rattle.unit_source.specs.InPlace.{InPlace, done, leaf, element, broken, included, all_directives, followed}
use Rattle.unit_source.specs.Placed.{in_place, node_in_place}
use Rattle.unit_source.proofs.PlacedLemmas.{element_placed, include_placed}

order_followed : (a b : InPlace) → all_directives (followed a b) ≡ all_directives a ++ all_directives b
order_followed done b = refl
order_followed (leaf (leaves.Directive name attributes) place next) b = ap (λ ds. directive name attributes place ∷ ds) (order_followed next b)
order_followed (leaf (leaves.Text text) place next) b = order_followed next b
order_followed (leaf leaves.Comment place next) b = order_followed next b
order_followed (leaf (leaves.Expr text) place next) b = order_followed next b
order_followed (leaf leaves.Hash place next) b = order_followed next b
order_followed (element opened body next) b =
    ap (λ ds. all_directives body ++ ds) (order_followed next b) ∙ sym (append_assoc (all_directives body) (all_directives next) (all_directives b))
order_followed (broken fault next) b = order_followed next b
order_followed (included d entry body next) b =
    ap (λ ds. d ∷ all_directives body ++ ds) (order_followed next b) ∙ sym (ap (λ ds. d ∷ ds) (append_assoc (all_directives body) (all_directives next) (all_directives b)))

-- one more node was looked at
pub one_ordered : (all : List Directive) (node : PlacedNode) (nodes : List PlacedNode)
    → (all ++ all_directives (node_in_place node)) ++ all_directives (in_place nodes) ≡ all ++ all_directives (followed (node_in_place node) (in_place nodes))
one_ordered all node nodes =
    append_assoc all (all_directives (node_in_place node)) (all_directives (in_place nodes)) ∙ sym (ap (λ ds. all ++ ds) (order_followed (node_in_place node) (in_place nodes)))

-- the loop looked at one more node
pub next_ordered : (all : List PlacedNode) (i : ℕ) (node : PlacedNode) (before found total : List Directive) → i < length all → node ≡ get_or all i node
    → before ++ all_directives (in_place (drop i all)) ≡ total → found ≡ before ++ all_directives (node_in_place node)
    → found ++ all_directives (in_place (drop (i + 1) all)) ≡ total
next_ordered all i node before found total lt is whole more =
    ap (λ ds. ds ++ all_directives (in_place (drop (i + 1) all))) more
    ∙ one_ordered before node (drop (i + 1) all)
    ∙ ap (λ ns. before ++ all_directives (in_place ns)) (sym split) ∙ whole
  where
    split : drop i all ≡ node ∷ drop (i + 1) all
    split = drop-cons all i node lt ∙ ap (λ n. get_or all i node ∷ drop n all) (sym (add-one i)) ∙ ap (λ x. x ∷ drop (i + 1) all) (sym is)

pub element_ordered : (e : PlacedElement) → all_directives (node_in_place (Element e)) ≡ all_directives (in_place e.body.items)
element_ordered e = ap all_directives (element_placed e) ∙ append-nil (all_directives (in_place e.body.items))

pub include_ordered : (all : List Directive) (i : PlacedInclude)
    → (all ++ i.directive ∷ []) ++ all_directives (in_place i.body.items) ≡ all ++ all_directives (node_in_place (Included i))
include_ordered all i =
    append_assoc all (i.directive ∷ []) (all_directives (in_place i.body.items))
    ∙ ap (λ ds. all ++ i.directive ∷ ds) (sym (append-nil (all_directives (in_place i.body.items))))
    ∙ ap (λ t. all ++ all_directives t) (sym (include_placed i))
