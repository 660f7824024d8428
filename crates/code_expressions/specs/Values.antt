-- The codes of the values of attributes, from the codes of their parts.
use Rattle.std.specs.Prelude.{Bool, true, false, List, [], ◌∷◌, ◌++◌}
use Rattle.code_expressions.specs.declared.values.Evaluation.{Evaluation}
use Rattle.code_expressions.specs.declared.values.Evaluation.TheVariants as evaluation
use Rattle.page_code.specs.Shapes.{cell, keeping, up}
use Rattle.page_code.specs.declared.code.Cell.{Cell}
use Rattle.page_code.specs.declared.instr.Instr.TheVariants as instr
use Rattle.page_code.specs.declared.op.Op.TheVariants as op
use Rattle.page_code.specs.declared.operands.Coercion.TheVariants as coercion
use Rattle.page_code.specs.declared.shape.Shape.{Shape}
use Rattle.code_forms.specs.Codes.{form_code}
use Rattle.code_forms.specs.Forms.{does}
use Rattle.code_lowering.specs.Expressions.{coerces}
use Rattle.page_meaning.specs.Attributes.{Coercion, as_it_is, to_text, to_text_or_null, to_number, to_number_or_null, to_truth, to_truth_or_null, unevaluated}
use Rattle.pg_text.specs.declared.place.Place.{Place}
use Rattle.pg_value.specs.declared.function.Function.TheVariants as function

-- what becomes of an attribute, in the words of the meaning
abbrev pub coercion_of : Evaluation → Coercion
coercion_of evaluation.AsItIs = as_it_is
coercion_of (evaluation.To coercion.Text) = to_text
coercion_of (evaluation.To coercion.TextOrNull) = to_text_or_null
coercion_of (evaluation.To coercion.Number) = to_number
coercion_of (evaluation.To coercion.NumberOrNull) = to_number_or_null
coercion_of (evaluation.To coercion.Truth) = to_truth
coercion_of (evaluation.To coercion.TruthOrNull) = to_truth_or_null
coercion_of evaluation.Unevaluated = unevaluated

-- what coerces the value on top
abbrev pub coercing_code : Shape → Place → Coercion → List Cell
coercing_code sh place as_it_is = []
coercing_code sh place to_text = form_code sh (coerces coercion.Text place)
coercing_code sh place to_text_or_null = form_code sh (coerces coercion.TextOrNull place)
coercing_code sh place to_number = form_code sh (coerces coercion.Number place)
coercing_code sh place to_number_or_null = form_code sh (coerces coercion.NumberOrNull place)
coercing_code sh place to_truth = form_code sh (coerces coercion.Truth place)
coercing_code sh place to_truth_or_null = form_code sh (coerces coercion.TruthOrNull place)
coercing_code sh place unevaluated = []

-- trimmed where that is asked
abbrev pub trimmed_code : Shape → Place → (trim : Bool) → List Cell → List Cell
trimmed_code sh place true text = text ++ form_code sh (does (op.Call function.Trim) place)
trimmed_code sh place false text = text

-- the text that a part writes, trimmed where that is asked
abbrev pub kept_code : Shape → Place → (trim : Bool) → List Cell → List Cell
kept_code sh place trim part = trimmed_code sh place trim (cell (up 0 sh) place instr.StartBody ∷ (part ++ cell (keeping sh) place instr.TakeBody ∷ []))
