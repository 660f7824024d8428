-- An expression along its left side, as forms: what each link does with the value before it.
use Rattle.std.specs.Prelude.{false, true, List, [], ◌∷◌}
use Rattle.el_reader.specs.El.{tree_of}
use Rattle.el_reader.specs.declared.chain.Link.{Link}
use Rattle.el_reader.specs.declared.chain.Link.TheVariants as link
use Rattle.page_code.specs.declared.op.Op.TheVariants as op
use Rattle.page_code.specs.declared.operands.Coercion.TheVariants as coercion
use Rattle.code_forms.specs.Forms.{Form, nothing, both, above, does, chosen}
use Rattle.code_lowering.specs.Expressions.{as_truth, coerces, constant, tree_form}
use Rattle.pg_text.specs.declared.place.Place.{Place}
use Rattle.pg_value.specs.Datum.{truth}
use Rattle.pg_value.specs.declared.operators.BinOp.{BinOp}
use Rattle.pg_value.specs.declared.operators.BinOp.TheVariants as binary_op

-- an operator and its right part, behind the left part
abbrev pub operation_form : Place → BinOp → (right : Form 0 1) → Form 1 1
operation_form place binary_op.And right = both (coerces coercion.Truth place) (chosen (as_truth place right) (constant place (truth false)) place)
operation_form place binary_op.Or right = both (coerces coercion.Truth place) (chosen (constant place (truth true)) (as_truth place right) place)
operation_form place o right = both (above 1 right) (does (op.Binary o) place)

-- a link behind a value
abbrev pub link_form : Place → Link → Form 1 1
link_form place (link.Operation o right) = operation_form place o (tree_form place (tree_of right.now))
link_form place (link.Key key) = both (above 1 (tree_form place (tree_of key.now))) (does op.Index place)

-- links, one behind the other
abbrev pub links_form : Place → List Link → Form 1 1
links_form place [] = nothing
links_form place (next ∷ links) = both (link_form place next) (links_form place links)
