-- The code of an expression along its left side: the first part, and what each link does.
use Rattle.std.proofs.Common.{◌≡◌, ℕ, ◌<◌, false, true, List, [], ◌∷◌, ◌++◌, All, get_or, length, None, refl, sym, ap, subst, ◌∙◌, append_assoc}
use Rattle.std.proofs.lemmas.List.{append-nil}
use Rattle.std.proofs.lemmas.List.Elements.{All-get_or, All-same, All-tail}
use Rattle.std.specs.Borrow.{Bor}
use Rattle.std.specs.List.{IsFirstAndRest}
use Rattle.el_reader.specs.Chain.{chained, linked, right_of}
use Rattle.el_reader.specs.El.{tree_of}
use Rattle.el_reader.specs.Tree.{Tree}
use Rattle.el_reader.specs.declared.chain.Link.{Link}
use Rattle.el_reader.specs.declared.chain.Link.TheVariants as link
use Rattle.el_reader.specs.declared.el.El.{El, size-El}
use Rattle.code_expressions.specs.Chain.{operation_form, link_form, links_form}
use Rattle.page_code.specs.declared.code.Cell.{Cell}
use Rattle.page_code.specs.declared.operands.Coercion.TheVariants as coercion
use Rattle.page_code.specs.declared.shape.Shape.{Shape}
use Rattle.code_forms.specs.Codes.{form_code}
use Rattle.code_forms.specs.Forms.{Form, chosen}
use Rattle.code_lowering.specs.Expressions.{as_truth, binary_form, coerces, constant, index_form, tree_form, value_form}
use Rattle.page_meaning.specs.Expressions.{keyed_object}
use Rattle.pg_text.specs.declared.place.Place.{Place}
use Rattle.pg_value.specs.Datum.{truth}
use Rattle.pg_value.specs.declared.operators.BinOp.{BinOp}
use Rattle.pg_value.specs.declared.operators.BinOp.TheVariants as binary_op

-- the link takes the whole value before it
abbrev pub TakesValue : Tree → Link → Type 0
TakesValue t (link.Operation o right) = Unit {0}
TakesValue t (link.Key key) = keyed_object t ≡ None

operated : (sh : Shape) (place : Place) (o : BinOp) (left right : Form 0 1) → form_code sh (binary_form place o left right) ≡ form_code sh left ++ form_code sh (operation_form place o right)
operated sh place binary_op.And left right =
    append_assoc (form_code sh left) (form_code sh (coerces coercion.Truth place)) (form_code sh (chosen (as_truth place right) (constant place (truth false)) place))
operated sh place binary_op.Or left right =
    append_assoc (form_code sh left) (form_code sh (coerces coercion.Truth place)) (form_code sh (chosen (constant place (truth true)) (as_truth place right) place))
operated sh place binary_op.Add left right = refl
operated sh place binary_op.Sub left right = refl
operated sh place binary_op.Mul left right = refl
operated sh place binary_op.Rem left right = refl
operated sh place binary_op.Join left right = refl
operated sh place binary_op.Lt left right = refl
operated sh place binary_op.Gt left right = refl
operated sh place binary_op.Le left right = refl
operated sh place binary_op.Ge left right = refl
operated sh place binary_op.Eq left right = refl
operated sh place binary_op.Ne left right = refl

-- a value and one link
one_link : (sh : Shape) (place : Place) (t : Tree) (l : Link) → TakesValue t l
    → form_code sh (value_form place t) ++ form_code sh (link_form place l) ≡ form_code sh (value_form place (linked t l))
one_link sh place t (link.Operation o right) h = sym (operated sh place o (value_form place t) (tree_form place (tree_of right.now)))
one_link sh place t (link.Key key) h = sym (ap (λ k. form_code sh (index_form place k (value_form place t) (tree_form place (tree_of key.now)))) h)

-- the same of an operator
pub operation_linked : (sh : Shape) (place : Place) (t : Tree) (l : Link) {o : BinOp} {right : Bor El} → l ≡ link.Operation o right
    → form_code sh (value_form place t) ++ form_code sh (link_form place l) ≡ form_code sh (value_form place (linked t l))
operation_linked sh place t l {o} {right} is =
    subst (λ x. form_code sh (value_form place t) ++ form_code sh (link_form place x) ≡ form_code sh (value_form place (linked t x))) (sym is)
    (one_link sh place t (link.Operation o right) tt)

-- behind a link nothing is an object of which one entry is taken
no_key : (t : Tree) (l : Link) → keyed_object (linked t l) ≡ None
no_key t (link.Operation o right) = refl
no_key t (link.Key key) = refl

takes_value : (t : Tree) (l : Link) → keyed_object t ≡ None → TakesValue t l
takes_value t (link.Operation o right) h = tt
takes_value t (link.Key key) h = h

-- a value and links
pub links_code : (sh : Shape) (place : Place) (t : Tree) (links : List Link) → keyed_object t ≡ None
    → form_code sh (value_form place t) ++ form_code sh (links_form place links) ≡ form_code sh (value_form place (chained t links))
links_code sh place t [] h = append-nil (form_code sh (value_form place t))
links_code sh place t (l ∷ links) h =
    sym (append_assoc (form_code sh (value_form place t)) (form_code sh (link_form place l)) others)
    ∙ ap (λ code. code ++ others) (one_link sh place t l (takes_value t l h))
    ∙ links_code sh place (linked t l) links (no_key t l)
  where
    others : List Cell
    others = form_code sh (links_form place links)

-- the code of a chain from its first link on
pub chain_begins : (sh : Shape) (place : Place) (first whole : Tree) (all slice links : List Link) (l : Link) (code : List Cell) → chained first all ≡ whole → slice ≡ all
    → IsFirstAndRest slice l links → code ≡ form_code sh (value_form place (linked first l)) → code ++ form_code sh (links_form place links) ≡ form_code sh (value_form place whole)
chain_begins sh place first whole all slice links l code is same cut begun =
    ap (λ c. c ++ form_code sh (links_form place links)) begun
    ∙ links_code sh place (linked first l) links (no_key first l)
    ∙ ap (λ t. form_code sh (value_form place t)) (ap (λ ls. chained first ls) (sym cut.0 ∙ same) ∙ is)

-- the part of a link is less deep than the whole
pub link_is_below : (most : ℕ) (all slice links : List Link) (first l : Link) (i : ℕ) → All (λ part. size-El (right_of part) < most) all → slice ≡ all → IsFirstAndRest slice first links
    → i < length links → l ≡ get_or links i l → size-El (right_of l) < most
link_is_below most all slice links first l i below same cut lt is =
    subst (λ part. size-El (right_of part) < most) (sym is)
    (All-get_or (λ part. size-El (right_of part) < most) links i l lt
    (All-tail (λ part. size-El (right_of part) < most) first links (All-same (λ part. size-El (right_of part) < most) (first ∷ links) all (sym cut.0 ∙ same) below)))
