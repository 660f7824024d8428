-- The directives of nodes.
use Rattle.std.proofs.Common.{◌≡◌, List, ◌∷◌, ◌++◌, refl, ap, sym, ◌∙◌, append_assoc, rules}
use Rattle.std.proofs.lemmas.List.{append-nil}
use mathlib.Core.Former.{Count}
use Rattle.page_pieces.specs.declared.piece.Leaf.TheVariants as leaves
use Rattle.page_reader.specs.declared.node.Node.{Node, Row_of-Node, end_of-Node, more_of-Node, items-the_row-Node}
use Rattle.page_reader.specs.declared.node.Node.TheViews.{the_lemmas}
use Rattle.page_reader.specs.declared.node.Node.TheVariants.{Element}
use Rattle.page_reader.specs.declared.node.Element.{Element as Struct}
use Rattle.page_reader.specs.Trees.{Tree, done, leaf, element, joined, tree_of, row_of, trees_of}
use Rattle.page_directives.specs.Directive.{Directive}
use Rattle.unit_source.specs.First.{directive, directives_in}
use Rattle.unit_source.specs.Placed.{head_of}

-- a row of nodes as a list
pub row_is : (n : Count) (row : Row_of-Node n) → row_of row ≡ trees_of (items-the_row-Node n row)
row_is _ end_of-Node = refl
row_is _ (more_of-Node node rest) = ap (joined (tree_of node)) (row_is _ rest)

-- an element as a tree
pub tree_element : (e : Struct) → tree_of (Element e) ≡ element (head_of e) (trees_of e.body.items) done
tree_element e = search (rules, the_lemmas, row_is)

pub joined_done : (t : Tree) → joined t done ≡ t
joined_done done = refl
joined_done (leaf kind place next) = ap (leaf kind place) (joined_done next)
joined_done (element opened body next) = ap (element opened body) (joined_done next)

pub directives_joined : (a b : Tree) → directives_in (joined a b) ≡ directives_in a ++ directives_in b
directives_joined done b = refl
directives_joined (leaf (leaves.Directive name attributes) place next) b = ap (λ ds. directive name attributes place ∷ ds) (directives_joined next b)
directives_joined (leaf (leaves.Text text) place next) b = directives_joined next b
directives_joined (leaf leaves.Comment place next) b = directives_joined next b
directives_joined (leaf (leaves.Expr text) place next) b = directives_joined next b
directives_joined (leaf leaves.Hash place next) b = directives_joined next b
directives_joined (element opened body next) b =
    ap (λ ds. directives_in body ++ ds) (directives_joined next b) ∙ sym (append_assoc (directives_in body) (directives_in next) (directives_in b))

-- one more node was looked at
pub one_node : (found : List Directive) (node : Node) (nodes : List Node)
    → (found ++ directives_in (tree_of node)) ++ directives_in (trees_of nodes) ≡ found ++ directives_in (joined (tree_of node) (trees_of nodes))
one_node found node nodes =
    append_assoc found (directives_in (tree_of node)) (directives_in (trees_of nodes)) ∙ sym (ap (λ ds. found ++ ds) (directives_joined (tree_of node) (trees_of nodes)))

-- the directives of an element are those of its body
pub element_directives : (e : Struct) → directives_in (tree_of (Element e)) ≡ directives_in (trees_of e.body.items)
element_directives e = ap directives_in (tree_element e) ∙ append-nil (directives_in (trees_of e.body.items))
