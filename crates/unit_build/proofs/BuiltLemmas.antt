-- What nodes in place come to, one after the other.
use Rattle.std.proofs.Common.{◌≡◌, ◌<◌, ◌+◌, append_assoc, ℕ, List, ◌∷◌, ◌++◌, Result, Ok, Err, length, drop, get_or, refl, ap, sym, ◌∙◌, add-one, drop-cons}
use Rattle.pg_text.specs.declared.place.Place.{Place}
use Rattle.page_pieces.specs.declared.attribute.Part.{Part as Written}
use Rattle.page_pieces.specs.declared.piece.Leaf.{Leaf}
use Rattle.page_pieces.specs.declared.piece.Leaf.TheVariants as leaves
use Rattle.page_reader.specs.Trees.{Opened}
use Rattle.page_directives.specs.Directive.{Directive}
use Rattle.el_reader.specs.declared.fault.ElFault.{ElFault}
use Rattle.el_reader.specs.ExpressionOf.{expression_of}
use Rattle.el_reader.specs.Tree.{Tree}
use Rattle.jstl_tags.specs.Elements.{opened_of}
use Rattle.unit_source.specs.declared.placed.PlacedNode.{PlacedNode}
use Rattle.unit_source.specs.declared.placed.PlacedNode.TheVariants.{Element, Included}
use Rattle.unit_source.specs.declared.placed.PlacedElement.{PlacedElement}
use Rattle.unit_source.specs.declared.placed.PlacedInclude.{PlacedInclude}
use Rattle.unit_source.specs.InPlace.{InPlace, done, leaf, element, broken, included, followed}
use Rattle.unit_source.specs.Placed.{node_in_place, in_place}
use Rattle.unit_words.specs.Build.{built, element_before, leaf_before, part_of, parts_of, shown_before}
use Rattle.unit_words.specs.Kinds.{Kind, kind_of}
use Rattle.unit_words.specs.Kinds as kind
use Rattle.unit_nodes.specs.Nodes.{Nodes, Part, joined}
use Rattle.unit_nodes.specs.Nodes as nodes
use Rattle.unit_nodes.proofs.NodeLemmas.{joined_assoc, joined_done}
use Rattle.unit_judges.proofs.PlacedLemmas.{placed_element, placed_include}

-- what nodes in place come to, and then others
shown_joined : (found : Result Tree ElFault) (place : Place) (a b : Nodes) → shown_before found place (joined a b) ≡ joined (shown_before found place a) b
shown_joined (Ok tree) place a b = refl
shown_joined (Err fault) place a b = refl

leaf_joined : (kind : Leaf) (place : Place) (a b : Nodes) → leaf_before kind place (joined a b) ≡ joined (leaf_before kind place a) b
leaf_joined (leaves.Text text) place a b = refl
leaf_joined leaves.Comment place a b = refl
leaf_joined (leaves.Expr text) place a b = shown_joined (expression_of text) place a b
leaf_joined leaves.Hash place a b = refl
leaf_joined (leaves.Directive name attributes) place a b = refl

element_joined : (k : Kind) (opened : Opened) (body a b : Nodes) → element_before k opened body (joined a b) ≡ joined (element_before k opened body a) b
element_joined (kind.core found) opened body a b = refl
element_joined (kind.standard found) opened body a b = refl
element_joined (kind.call path) opened body a b = refl
element_joined (kind.refused fault) opened body a b = refl

pub built_followed : (ds : List Directive) (a b : InPlace) → built ds (followed a b) ≡ joined (built ds a) (built ds b)
built_followed ds done b = refl
built_followed ds (leaf kind place next) b = ap (leaf_before kind place) (built_followed ds next b) ∙ leaf_joined kind place (built ds next) (built ds b)
built_followed ds (element opened body next) b =
    ap (element_before (kind_of ds opened.tag) opened (built ds body)) (built_followed ds next b)
    ∙ element_joined (kind_of ds opened.tag) opened (built ds body) (built ds next) (built ds b)
built_followed ds (broken fault next) b = built_followed ds next b
built_followed ds (included d entry body next) b = ap (joined (built ds body)) (built_followed ds next b) ∙ sym (joined_assoc (built ds body) (built ds next) (built ds b))

pub broken_built : (made : Nodes) → joined made nodes.done ≡ made
broken_built made = joined_done made

pub element_built : (ds : List Directive) (e : PlacedElement) → built ds (node_in_place (Element e)) ≡ built ds (element (opened_of e.head) (in_place e.body.items) done)
element_built ds e = ap (built ds) (placed_element e)

pub include_built : (ds : List Directive) (i : PlacedInclude) → built ds (node_in_place (Included i)) ≡ built ds (in_place i.body.items)
include_built ds i = ap (built ds) (placed_include i) ∙ joined_done (built ds (in_place i.body.items))

-- the loop looked at one more node
pub next_built : (ds : List Directive) (all : List PlacedNode) (i : ℕ) (node : PlacedNode) (before found total : Nodes) → i < length all → node ≡ get_or all i node
    → joined before (built ds (in_place (drop i all))) ≡ total → found ≡ joined before (built ds (node_in_place node))
    → joined found (built ds (in_place (drop (i + 1) all))) ≡ total
next_built ds all i node before found total lt is whole more =
    ap (λ made. joined made (built ds (in_place (drop (i + 1) all)))) more
    ∙ joined_assoc before (built ds (node_in_place node)) (built ds (in_place (drop (i + 1) all)))
    ∙ ap (joined before) (sym (built_followed ds (node_in_place node) (in_place (drop (i + 1) all))))
    ∙ ap (λ ns. joined before (built ds (in_place ns))) (sym split) ∙ whole
  where
    split : drop i all ≡ node ∷ drop (i + 1) all
    split = drop-cons all i node lt ∙ ap (λ n. get_or all i node ∷ drop n all) (sym (add-one i)) ∙ ap (λ x. x ∷ drop (i + 1) all) (sym is)

-- the loop looked at one more part
pub next_part : (all : List Written) (i : ℕ) (part : Written) (before found total : List Part) → i < length all → part ≡ get_or all i part
    → before ++ parts_of (drop i all) ≡ total → found ≡ before ++ part_of part → found ++ parts_of (drop (i + 1) all) ≡ total
next_part all i part before found total lt is whole more =
    ap (λ parts. parts ++ parts_of (drop (i + 1) all)) more
    ∙ append_assoc before (part_of part) (parts_of (drop (i + 1) all))
    ∙ ap (λ ps. before ++ parts_of ps) (sym split) ∙ whole
  where
    split : drop i all ≡ part ∷ drop (i + 1) all
    split = drop-cons all i part lt ∙ ap (λ p. get_or all i part ∷ drop p all) (sym (add-one i)) ∙ ap (λ x. x ∷ drop (i + 1) all) (sym is)
