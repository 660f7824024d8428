-- Nodes that are put in place: white space alone, and breaks.
use Rattle.std.proofs.Common.{◌≡◌, ℕ, suc, Bool, true, false, not, ◌&&◌, cond, ◌==◌, List, [], ◌∷◌, length, refl, ap, sym, ◌∙◌, arith}
use Rattle.std.proofs.lemmas.Bool.Decides.{Decides-eqb}
use Rattle.std.specs.List.{list_all}
use Rattle.pg_text.specs.declared.place.Place.{Place}
use Rattle.pg_text.specs.declared.place.PageFault.{PageFault}
use Rattle.page_pieces.specs.Names.{is_white}
use Rattle.page_pieces.specs.declared.piece.Leaf.{Leaf as Kind}
use Rattle.page_pieces.specs.declared.piece.Leaf.TheVariants as leaves
use Rattle.page_reader.specs.declared.node.Node.{Node, Text, Comment, Expr, Hash, Directive, Element'}
use Rattle.page_reader.specs.declared.node.Node.TheVariants.{Element}
use Rattle.page_reader.specs.declared.node.Element.{Element as Struct}
use Rattle.page_reader.specs.Trees.{Opened, Tree, joined, tree_of, trees_of}
use Rattle.page_reader.specs.Trees as tree
use Rattle.unit_source.specs.declared.placed.PlacedNode.{PlacedNode}
use Rattle.unit_source.specs.declared.placed.PlacedNode as node
use Rattle.unit_source.specs.InPlace.{InPlace, done, leaf, element, broken, included, followed, is_white_text, leaf_placed, placed, trimmed, with_fault, without_white}
use Rattle.unit_source.specs.Placed.{head_of, node_in_place}
use Rattle.unit_source.specs.ReadPlacing.{blanked, is_one_leaf}
use Rattle.unit_source.proofs.OwnLemmas.{joined_done, tree_element}
use Rattle.unit_source.proofs.PlacedLemmas.{followed_assoc, blanked_joined}

-- white space alone stays where a file holds nothing else
pub trims : (trim : Bool) (t : Tree) → trimmed trim t ≡ blanked (trim && not (is_one_leaf t)) t
trims false t = refl
trims true tree.done = refl
trims true (tree.leaf kind place tree.done) = refl
trims true (tree.leaf kind place (tree.leaf other at next)) = refl
trims true (tree.leaf kind place (tree.element opened body next)) = refl
trims true (tree.element opened body next) = refl

-- nodes are one that holds no others
not_alone : (other : Node) (t : Tree) (kind : Kind) (place : Place) → is_one_leaf (tree.leaf kind place (joined (tree_of other) t)) ≡ false
not_alone (Text text at) t kind place = refl
not_alone (Comment at) t kind place = refl
not_alone (Expr text at) t kind place = refl
not_alone (Hash at) t kind place = refl
not_alone (Directive name attributes at) t kind place = refl
not_alone (Element' prefix name attributes closing shape body source at) t kind place = refl

two_nodes : (first other : Node) (t : Tree) → is_one_leaf (joined (tree_of first) (joined (tree_of other) t)) ≡ false
two_nodes (Text text at) other t = not_alone other t (leaves.Text text) at
two_nodes (Comment at) other t = not_alone other t leaves.Comment at
two_nodes (Expr text at) other t = not_alone other t (leaves.Expr text) at
two_nodes (Hash at) other t = not_alone other t leaves.Hash at
two_nodes (Directive name attributes at) other t = not_alone other t (leaves.Directive name attributes) at
two_nodes (Element' prefix name attributes closing shape body source at) other t = refl

pub one_leaf : (first : Node) (others : List Node) → is_one_leaf (trees_of (first ∷ others)) ≡ ((length others == 0) && is_one_leaf (tree_of first))
one_leaf first [] = ap is_one_leaf (joined_done (tree_of first))
one_leaf first (other ∷ others) = two_nodes first other (trees_of others) ∙ go (suc (length others) == 0) refl
  where
    go : (b : Bool) → b ≡ (suc (length others) == 0) → false ≡ (b && is_one_leaf (tree_of first))
    go false e = refl
    go true e = let none : suc (length others) ≡ 0 = (Decides-eqb (suc (length others)) 0).0 (sym e) in absurd (omega (arith, none))

-- one more node is in place
pub one_placed : (trims : Bool) (all : InPlace) (first : Node) (nodes : List Node)
    → followed (followed all (placed (blanked trims (tree_of first)))) (placed (blanked trims (trees_of nodes)))
    ≡ followed all (placed (blanked trims (joined (tree_of first) (trees_of nodes))))
one_placed trims all first nodes =
    followed_assoc all (placed (blanked trims (tree_of first))) (placed (blanked trims (trees_of nodes)))
    ∙ sym (ap (followed all) (blanked_joined trims (tree_of first) (trees_of nodes)))

pub none_blanked : (trims : Bool) → placed (blanked trims tree.done) ≡ done
none_blanked false = refl
none_blanked true = refl

-- a leaf stays that is not white space alone
pub leaf_blanked : (trims : Bool) (kind : Kind) (place : Place) → (trims && is_white_text kind) ≡ false → placed (blanked trims (tree.leaf kind place tree.done)) ≡ leaf_placed kind place done
leaf_blanked false kind place stays = refl
leaf_blanked true kind place stays = ap (λ white. placed (cond white tree.done (tree.leaf kind place tree.done))) stays

pub text_blanked : (text : List ℕ) (place : Place) → list_all is_white text ≡ true → placed (blanked true (tree.leaf (leaves.Text text) place tree.done)) ≡ done
text_blanked text place white = ap (λ white. placed (cond white tree.done (tree.leaf (leaves.Text text) place tree.done))) white

pub element_blanked : (trims : Bool) (e : Struct) → placed (blanked trims (tree_of (Element e))) ≡ element (head_of e) (placed (blanked trims (trees_of e.body.items))) done
element_blanked false e = ap placed (tree_element e)
element_blanked true e = ap (λ t. placed (without_white t)) (tree_element e)

-- a break stands at the last node
fault_behind : (fault : PageFault) (opened : Opened) (body next : InPlace) → (next ≡ done → ⊥) → with_fault fault (element opened body next) ≡ element opened body (with_fault fault next)
fault_behind fault opened body done some = absurd (some refl)
fault_behind fault opened body (leaf kind place next) some = refl
fault_behind fault opened body (element other inner next) some = refl
fault_behind fault opened body (broken other next) some = refl
fault_behind fault opened body (included d entry inner next) some = refl

some_followed : (a b : InPlace) → (b ≡ done → ⊥) → followed a b ≡ done → ⊥
some_followed done b some none = some none
some_followed (leaf kind place next) b some none = absurd (cc)
some_followed (element opened body next) b some none = absurd (cc)
some_followed (broken fault next) b some none = absurd (cc)
some_followed (included d entry body next) b some none = absurd (cc)

fault_followed : (fault : PageFault) (a b : InPlace) → (b ≡ done → ⊥) → with_fault fault (followed a b) ≡ followed a (with_fault fault b)
fault_followed fault done b some = refl
fault_followed fault (leaf kind place next) b some = ap (leaf kind place) (fault_followed fault next b some)
fault_followed fault (element opened body next) b some =
    fault_behind fault opened body (followed next b) (some_followed next b some) ∙ ap (element opened body) (fault_followed fault next b some)
fault_followed fault (broken other next) b some = ap (broken other) (fault_followed fault next b some)
fault_followed fault (included d entry body next) b some = ap (included d entry body) (fault_followed fault next b some)

node_stands : (last : PlacedNode) → node_in_place last ≡ done → ⊥
node_stands (node.Leaf kind place) none = absurd (cc)
node_stands (node.Element' head shape body) none = absurd (cc)
node_stands (node.Broken fault) none = absurd (cc)
node_stands (node.Included' directive entry shape body) none = absurd (cc)

pub fault_last : (fault : PageFault) (front : InPlace) (last : PlacedNode) → with_fault fault (followed front (node_in_place last)) ≡ followed front (with_fault fault (node_in_place last))
fault_last fault front last = fault_followed fault front (node_in_place last) (node_stands last)
