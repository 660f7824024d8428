-- The code of a call from the code of its arguments.
use Rattle.std.specs.Prelude.{ℕ, List, ◌++◌, Option, Some, None}
use Rattle.page_code.specs.declared.code.Cell.{Cell}
use Rattle.page_code.specs.declared.op.Op.TheVariants as op
use Rattle.page_code.specs.declared.shape.Shape.{Shape}
use Rattle.code_forms.specs.Codes.{form_code}
use Rattle.code_forms.specs.Forms.{does}
use Rattle.code_lowering.specs.Expressions.{constant, fitted}
use Rattle.pg_text.specs.declared.place.Place.{Place}
use Rattle.pg_value.specs.Datum.{null}
use Rattle.pg_value.specs.Function.{arity_of}
use Rattle.pg_value.specs.declared.function.Function.{Function}

-- the call of a function with so many arguments
abbrev pub call_code : Shape → Place → Option Function → (count : ℕ) → (arguments : List Cell) → List Cell
call_code sh place (Some f) count arguments = arguments ++ (form_code sh (fitted place count (arity_of f)) ++ form_code sh (does (op.Call f) place))
call_code sh place None count arguments = form_code sh (constant place null)
