-- The code of `c:out` behind its values, from the code of its body.
use Rattle.std.specs.Prelude.{Bool, true, false, List, ◌++◌}
use Rattle.code_expressions.specs.Values.{kept_code}
use Rattle.page_code.specs.Shapes.{keeping, up}
use Rattle.page_code.specs.declared.code.Cell.{Cell}
use Rattle.page_code.specs.declared.instr.Instr.TheVariants as instr
use Rattle.page_code.specs.declared.op.Op.TheVariants as op
use Rattle.page_code.specs.declared.shape.Shape.{Shape}
use Rattle.code_forms.specs.Codes.{either_code, form_code}
use Rattle.code_forms.specs.Forms.{does, swapped}
use Rattle.pg_text.specs.declared.place.Place.{Place}

-- writes the text on top, escaped where the truth value on top of it says so
abbrev pub chosen_put : Shape → Place → List Cell
chosen_put sh place =
    either_code (up 2 sh) (up 0 sh) place (instr.JumpIf false) (form_code sh (does op.PutEscaped place)) (form_code sh (does op.Put place))

-- the default's text, below which nothing of the action stands but where it is said whether it is escaped
abbrev pub default_code : Shape → Place → (escape : Bool) → List Cell
default_code sh place true = chosen_put sh place
default_code sh place false = form_code sh (does op.PutEscaped place)

-- the value's text, below which stands whether it is escaped, where that is given
abbrev pub value_code : Shape → Place → (escape : Bool) → List Cell
value_code sh place true = form_code sh (swapped place) ++ chosen_put sh place
value_code sh place false = form_code sh (does op.PutEscaped place)

-- what stands open in the body
abbrev pub out_ground : (escape : Bool) → Shape → Shape
out_ground true sh = keeping (up 1 sh)
out_ground false sh = keeping sh

-- the trimmed text of the body
abbrev pub body_code : Shape → Place → (escape : Bool) → (body : List Cell) → List Cell
body_code sh place true body = kept_code (up 1 sh) place true body ++ value_code sh place true
body_code sh place false body = kept_code sh place true body ++ value_code sh place false

-- the value, or where that is null the default, or else the body
abbrev pub out_code : Shape → Place → (default escape : Bool) → (body : List Cell) → List Cell
out_code sh place true true body =
    either_code (up 3 sh) (up 0 sh) place instr.JumpNull (value_code (up 1 sh) place true ++ form_code sh (does op.Pop place)) (default_code sh place true)
out_code sh place true false body =
    either_code (up 2 sh) (up 0 sh) place instr.JumpNull (value_code (up 1 sh) place false ++ form_code sh (does op.Pop place)) (default_code sh place false)
out_code sh place false true body = either_code (up 2 sh) (up 0 sh) place instr.JumpNull (value_code sh place true) (body_code sh place true body)
out_code sh place false false body = either_code (up 1 sh) (up 0 sh) place instr.JumpNull (value_code sh place false) (body_code sh place false body)
