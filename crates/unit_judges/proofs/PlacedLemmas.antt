-- Nodes in place, and what stands among them.
use Rattle.std.proofs.Common.{◌≡◌, ◌<◌, ◌+◌, ℕ, Bool, true, false, cond, List, [], ◌∷◌, ◌++◌, codes, refl, ap, sym, ◌∙◌, append_assoc, rules, length, drop, get_or, add-one, drop-cons}
use Rattle.std.proofs.lemmas.List.{append-nil}
use mathlib.Core.Former.{Count}
use Rattle.page_reader.specs.Trees.{Tree, joined}
use Rattle.page_reader.specs.Trees as tree
use Rattle.jstl_tags.specs.Content.{inner, is_standard}
use Rattle.jstl_tags.specs.Elements.{opened_of}
use Rattle.jstl_tags.specs.Standing.{Standing, leaf_standing, standing_in, tag}
use Rattle.unit_source.specs.declared.placed.PlacedNode.{PlacedNode, Row_of-PlacedNode, end_of-PlacedNode, more_of-PlacedNode, items-the_row-PlacedNode}
use Rattle.unit_source.specs.declared.placed.PlacedNode.TheViews.{the_lemmas}
use Rattle.unit_source.specs.declared.placed.PlacedNode.TheVariants.{Element, Included}
use Rattle.unit_source.specs.declared.placed.PlacedElement.{PlacedElement}
use Rattle.unit_source.specs.declared.placed.PlacedInclude.{PlacedInclude}
use Rattle.unit_source.specs.InPlace.{InPlace, done, leaf, element, broken, included, flat, followed}
use Rattle.unit_source.specs.Placed.{head_of, node_in_place, row_in_place, in_place}

-- a row of nodes as a list
pub row_is : (n : Count) (row : Row_of-PlacedNode n) → row_in_place row ≡ in_place (items-the_row-PlacedNode n row)
row_is _ end_of-PlacedNode = refl
row_is _ (more_of-PlacedNode node rest) = ap (followed (node_in_place node)) (row_is _ rest)

-- an element in place
pub placed_element : (e : PlacedElement) → node_in_place (Element e) ≡ element (head_of e.head) (in_place e.body.items) done
placed_element e = search (rules, the_lemmas, row_is)

-- an include directive in place
pub placed_include : (i : PlacedInclude) → node_in_place (Included i) ≡ included i.directive i.entry (in_place i.body.items) done
placed_include i = search (rules, the_lemmas, row_is)

joined_assoc : (a b c : Tree) → joined (joined a b) c ≡ joined a (joined b c)
joined_assoc tree.done b c = refl
joined_assoc (tree.leaf kind place next) b c = ap (tree.leaf kind place) (joined_assoc next b c)
joined_assoc (tree.element opened body next) b c = ap (tree.element opened body) (joined_assoc next b c)

pub flat_followed : (a b : InPlace) → flat (followed a b) ≡ joined (flat a) (flat b)
flat_followed done b = refl
flat_followed (leaf kind place next) b = ap (tree.leaf kind place) (flat_followed next b)
flat_followed (element opened body next) b = ap (tree.element opened (flat body)) (flat_followed next b)
flat_followed (broken fault next) b = flat_followed next b
flat_followed (included d entry body next) b = ap (joined (flat body)) (flat_followed next b) ∙ sym (joined_assoc (flat body) (flat next) (flat b))

pub standing_joined : (a b : Tree) → standing_in (joined a b) ≡ standing_in a ++ standing_in b
standing_joined tree.done b = refl
standing_joined (tree.leaf kind place next) b = ap (λ s. leaf_standing kind ++ s) (standing_joined next b) ∙ sym (append_assoc (leaf_standing kind) (standing_in next) (standing_in b))
standing_joined (tree.element opened body next) b = ap (λ s. tag opened.tag ∷ s) (standing_joined next b)

inner_if : (b : Bool) (body next other : Tree) → cond b (joined body (joined next other)) (joined next other) ≡ joined (cond b (joined body next) next) other
inner_if true body next other = sym (joined_assoc body next other)
inner_if false body next other = refl

pub inner_joined : (a b : Tree) → inner (joined a b) ≡ joined (inner a) (inner b)
inner_joined tree.done b = refl
inner_joined (tree.leaf kind place next) b = inner_joined next b
inner_joined (tree.element opened body next) b =
    ap (λ t. cond (is_standard (codes "body") opened.tag) (joined body t) t) (inner_joined next b) ∙ inner_if (is_standard (codes "body") opened.tag) body (inner next) (inner b)

-- one more node was looked at
pub one_standing : (found : List Standing) (node : PlacedNode) (nodes : List PlacedNode)
    → (found ++ standing_in (flat (node_in_place node))) ++ standing_in (flat (in_place nodes)) ≡ found ++ standing_in (flat (in_place (node ∷ nodes)))
one_standing found node nodes =
    append_assoc found (standing_in (flat (node_in_place node))) (standing_in (flat (in_place nodes)))
    ∙ sym (ap (λ s. found ++ s) (ap standing_in (flat_followed (node_in_place node) (in_place nodes)) ∙ standing_joined (flat (node_in_place node)) (flat (in_place nodes))))

pub element_standing : (e : PlacedElement) → standing_in (flat (node_in_place (Element e))) ≡ tag (opened_of e.head).tag ∷ []
element_standing e = ap (λ n. standing_in (flat n)) (placed_element e)

pub include_standing : (i : PlacedInclude) → standing_in (flat (node_in_place (Included i))) ≡ standing_in (flat (in_place i.body.items))
include_standing i = ap (λ n. standing_in (flat n)) (placed_include i) ∙ standing_joined (flat (in_place i.body.items)) tree.done ∙ append-nil (standing_in (flat (in_place i.body.items)))

pub one_inner : (found : List Standing) (node : PlacedNode) (nodes : List PlacedNode)
    → (found ++ standing_in (inner (flat (node_in_place node)))) ++ standing_in (inner (flat (in_place nodes))) ≡ found ++ standing_in (inner (flat (in_place (node ∷ nodes))))
one_inner found node nodes =
    append_assoc found (standing_in (inner (flat (node_in_place node)))) (standing_in (inner (flat (in_place nodes))))
    ∙ sym (ap (λ s. found ++ s) (ap (λ t. standing_in (inner t)) (flat_followed (node_in_place node) (in_place nodes))
    ∙ ap standing_in (inner_joined (flat (node_in_place node)) (flat (in_place nodes))) ∙ standing_joined (inner (flat (node_in_place node))) (inner (flat (in_place nodes)))))

pub joined_done : (a : Tree) → joined a tree.done ≡ a
joined_done tree.done = refl
joined_done (tree.leaf kind place next) = ap (tree.leaf kind place) (joined_done next)
joined_done (tree.element opened body next) = ap (tree.element opened body) (joined_done next)

pub element_inner : (e : PlacedElement)
    → standing_in (inner (flat (node_in_place (Element e)))) ≡ cond (is_standard (codes "body") (opened_of e.head).tag) (standing_in (flat (in_place e.body.items))) []
element_inner e = ap (λ n. standing_in (inner (flat n))) (placed_element e) ∙ of (is_standard (codes "body") (opened_of e.head).tag)
  where
    of : (b : Bool) → standing_in (cond b (joined (flat (in_place e.body.items)) tree.done) tree.done) ≡ cond b (standing_in (flat (in_place e.body.items))) []
    of true = ap standing_in (joined_done (flat (in_place e.body.items)))
    of false = refl

pub include_inner : (i : PlacedInclude) → standing_in (inner (flat (node_in_place (Included i)))) ≡ standing_in (inner (flat (in_place i.body.items)))
include_inner i = ap (λ n. standing_in (inner (flat n))) (placed_include i) ∙ ap (λ t. standing_in (inner t)) (joined_done (flat (in_place i.body.items)))

-- the first of the items that are left
pub drop_node : {A : Type 0} (all : List A) (i : ℕ) (node : A) → i < length all → node ≡ get_or all i node → drop i all ≡ node ∷ drop (i + 1) all
drop_node all i node lt is = drop-cons all i node lt ∙ ap (λ n. get_or all i node ∷ drop n all) (sym (add-one i)) ∙ ap (λ x. x ∷ drop (i + 1) all) (sym is)

-- the loop looked at one more node
pub next_node : (f : List PlacedNode → List Standing) (all : List PlacedNode) (i : ℕ) (node : PlacedNode) (before after goal : List Standing) → i < length all → node ≡ get_or all i node
    → before ++ f (drop i all) ≡ goal → after ++ f (drop (i + 1) all) ≡ before ++ f (node ∷ drop (i + 1) all) → after ++ f (drop (i + 1) all) ≡ goal
next_node f all i node before after goal lt is whole more = more ∙ ap (λ nodes. before ++ f nodes) (sym (drop_node all i node lt is)) ∙ whole
