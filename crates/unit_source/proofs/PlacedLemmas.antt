-- Nodes in place, one after the other.
use Rattle.std.proofs.Common.{◌≡◌, ℕ, Bool, true, false, cond, List, [], ◌∷◌, ◌++◌, refl, ap, sym, ◌∙◌, rules}
use Rattle.std.specs.Prelude.{codes}
use Rattle.std.specs.Str.{bytes_eq}
use mathlib.Core.Former.{Count}
use Rattle.pg_text.specs.declared.place.Place.{Place}
use Rattle.page_pieces.specs.declared.attribute.Attribute.{Attribute}
use Rattle.page_pieces.specs.declared.piece.Leaf.{Leaf}
use Rattle.page_pieces.specs.declared.piece.Leaf.TheVariants as leaves
use Rattle.page_reader.specs.Trees.{Tree, joined}
use Rattle.page_reader.specs.Trees as tree
use Rattle.unit_source.specs.declared.entry.Entry.TheVariants.{Unnamed}
use Rattle.unit_source.specs.declared.placed.PlacedNode.{PlacedNode, Row_of-PlacedNode, end_of-PlacedNode, more_of-PlacedNode, items-the_row-PlacedNode}
use Rattle.unit_source.specs.declared.placed.PlacedNode.TheViews.{the_lemmas}
use Rattle.unit_source.specs.declared.placed.PlacedNode.TheVariants.{Element, Included}
use Rattle.unit_source.specs.declared.placed.PlacedElement.{PlacedElement}
use Rattle.unit_source.specs.declared.placed.PlacedInclude.{PlacedInclude}
use Rattle.unit_source.specs.First.{directive}
use Rattle.unit_source.specs.InPlace.{InPlace, done, leaf, element, broken, included, followed, leaf_placed, placed, is_white_text, without_white}
use Rattle.unit_source.specs.Placed.{head_of, node_in_place, row_in_place, in_place}
use Rattle.unit_source.specs.ReadPlacing.{blanked}

pub followed_done : (t : InPlace) → followed t done ≡ t
followed_done done = refl
followed_done (leaf kind place next) = ap (leaf kind place) (followed_done next)
followed_done (element opened body next) = ap (element opened body) (followed_done next)
followed_done (broken fault next) = ap (broken fault) (followed_done next)
followed_done (included d entry body next) = ap (included d entry body) (followed_done next)

pub followed_assoc : (a b c : InPlace) → followed (followed a b) c ≡ followed a (followed b c)
followed_assoc done b c = refl
followed_assoc (leaf kind place next) b c = ap (leaf kind place) (followed_assoc next b c)
followed_assoc (element opened body next) b c = ap (element opened body) (followed_assoc next b c)
followed_assoc (broken fault next) b c = ap (broken fault) (followed_assoc next b c)
followed_assoc (included d entry body next) b c = ap (included d entry body) (followed_assoc next b c)

-- one more node at the end
pub in_place_push : (nodes : List PlacedNode) (node : PlacedNode) → in_place (nodes ++ node ∷ []) ≡ followed (in_place nodes) (node_in_place node)
in_place_push [] node = followed_done (node_in_place node)
in_place_push (first ∷ nodes) node =
    ap (followed (node_in_place first)) (in_place_push nodes node) ∙ sym (followed_assoc (node_in_place first) (in_place nodes) (node_in_place node))

-- a row of nodes as a list
pub row_placed : (n : Count) (row : Row_of-PlacedNode n) → row_in_place row ≡ in_place (items-the_row-PlacedNode n row)
row_placed _ end_of-PlacedNode = refl
row_placed _ (more_of-PlacedNode node rest) = ap (followed (node_in_place node)) (row_placed _ rest)

-- an element and an include directive in place
pub element_placed : (e : PlacedElement) → node_in_place (Element e) ≡ element (head_of e.head) (in_place e.body.items) done
element_placed e = search (rules, the_lemmas, row_placed)

pub include_placed : (i : PlacedInclude) → node_in_place (Included i) ≡ included i.directive i.entry (in_place i.body.items) done
include_placed i = search (rules, the_lemmas, row_placed)

-- trees, one after the other, in place
directive_before : (is : Bool) (kind : Leaf) (name : List ℕ) (attributes : List Attribute) (place : Place) (a b : InPlace)
    → cond is (included (directive name attributes place) Unnamed done (followed a b)) (leaf kind place (followed a b))
    ≡ followed (cond is (included (directive name attributes place) Unnamed done a) (leaf kind place a)) b
directive_before true kind name attributes place a b = refl
directive_before false kind name attributes place a b = refl

pub leaf_before : (kind : Leaf) (place : Place) (a b : InPlace) → leaf_placed kind place (followed a b) ≡ followed (leaf_placed kind place a) b
leaf_before (leaves.Directive name attributes) place a b = directive_before (bytes_eq name (codes "include")) (leaves.Directive name attributes) name attributes place a b
leaf_before (leaves.Text text) place a b = refl
leaf_before leaves.Comment place a b = refl
leaf_before (leaves.Expr text) place a b = refl
leaf_before leaves.Hash place a b = refl

pub placed_joined : (a b : Tree) → placed (joined a b) ≡ followed (placed a) (placed b)
placed_joined tree.done b = refl
placed_joined (tree.leaf kind place next) b = ap (leaf_placed kind place) (placed_joined next b) ∙ leaf_before kind place (placed next) (placed b)
placed_joined (tree.element opened body next) b = ap (element opened (placed body)) (placed_joined next b)

kept_before : (white : Bool) (kind : Leaf) (place : Place) (a b : Tree) → cond white (joined a b) (tree.leaf kind place (joined a b)) ≡ joined (cond white a (tree.leaf kind place a)) b
kept_before true kind place a b = refl
kept_before false kind place a b = refl

pub white_joined : (a b : Tree) → without_white (joined a b) ≡ joined (without_white a) (without_white b)
white_joined tree.done b = refl
white_joined (tree.leaf kind place next) b =
    ap (λ t. cond (is_white_text kind) t (tree.leaf kind place t)) (white_joined next b) ∙ kept_before (is_white_text kind) kind place (without_white next) (without_white b)
white_joined (tree.element opened body next) b = ap (tree.element opened (without_white body)) (white_joined next b)

-- nodes in place, as they are read, and then others
pub blanked_joined : (trims : Bool) (a b : Tree) → placed (blanked trims (joined a b)) ≡ followed (placed (blanked trims a)) (placed (blanked trims b))
blanked_joined false a b = placed_joined a b
blanked_joined true a b = ap placed (white_joined a b) ∙ placed_joined (without_white a) (without_white b)
