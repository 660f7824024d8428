-- Actions around a body: what becomes of the attributes of each, what stands open in its body, and its code behind the values of its
-- attributes, from the code of its body.
use Rattle.std.specs.Prelude.{ℕ, true, false, List, [], ◌∷◌, ◌++◌, codes, length, Option, option_map}
use Rattle.code_actions.specs.Bodies.{value_or_body_code, with_value_or_body_code}
use Rattle.code_actions.specs.Outputs.{out_code, out_ground}
use Rattle.code_actions.specs.declared.evaluations.Evaluations.{Evaluations}
use Rattle.code_actions.specs.declared.evaluations.Evaluations.TheVariants as evaluations
use Rattle.page_acts.specs.Views.{variable_of}
use Rattle.page_acts.specs.declared.enclosing.Enclosing.{Enclosing}
use Rattle.page_acts.specs.declared.enclosing.Enclosing.TheVariants as action
use Rattle.page_code.specs.Shapes.{cell, keeping, looping, up}
use Rattle.page_code.specs.declared.code.Cell.{Cell}
use Rattle.page_code.specs.declared.instr.Instr.TheVariants as instr
use Rattle.page_code.specs.declared.op.Op.TheVariants as op
use Rattle.page_code.specs.declared.operands.LoopKind.{LoopKind}
use Rattle.page_code.specs.declared.operands.Over.TheVariants as over
use Rattle.page_code.specs.declared.operands.PropertyMode.TheVariants as mode
use Rattle.page_code.specs.declared.shape.Shape.{Shape}
use Rattle.code_forms.specs.Codes.{arranged_code, either_code, form_code, rounds_code}
use Rattle.code_forms.specs.Forms.{does}
use Rattle.code_lowering.specs.Lowering.{has, loop_kind, out_wanted, sets_given, sets_or_removes}
use Rattle.page_meaning.specs.Page.{Variable}
use Rattle.pg_text.specs.declared.place.Place.{Place}
use Rattle.pg_value.specs.Datum.{truth}

-- what becomes of its attributes
abbrev pub enclosing_evaluations : Enclosing → Evaluations
enclosing_evaluations action.Out = evaluations.Out
enclosing_evaluations (action.Set x) = evaluations.Set
enclosing_evaluations (action.SetEntry target) = evaluations.Set
enclosing_evaluations (action.If x) = evaluations.Test
enclosing_evaluations (action.ForEach x status) = evaluations.Each
enclosing_evaluations (action.ForTokens x status) = evaluations.Tokens

-- what stands open in its body, where its attributes with a value have these names
abbrev pub enclosing_ground : Enclosing → (names : List (List ℕ)) → Shape → Shape
enclosing_ground action.Out names sh = out_ground (has (codes "escapeXml") names) sh
enclosing_ground (action.Set x) names sh = keeping sh
enclosing_ground (action.SetEntry target) names sh = keeping (up 1 sh)
enclosing_ground (action.If x) names sh = sh
enclosing_ground (action.ForEach x status) names sh = looping sh
enclosing_ground (action.ForTokens x status) names sh = looping sh

-- `c:out`
abbrev pub out_by : Shape → Place → (names : List (List ℕ)) → (body : List Cell) → List Cell
out_by sh place names body =
    arranged_code sh place (out_wanted (has (codes "default") names) (has (codes "escapeXml") names)) names 0
    ++ out_code sh place (has (codes "default") names) (has (codes "escapeXml") names) body

-- `c:set` of a variable
abbrev pub set_by : Shape → Place → Variable → (names : List (List ℕ)) → (body : List Cell) → List Cell
set_by sh place x names body = value_or_body_code sh place (has (codes "value") names) names body ++ form_code sh (sets_or_removes place x.scope x.name)

-- `c:set` of an entry
abbrev pub entry_by : Shape → Place → (target : List ℕ) → (names : List (List ℕ)) → (body : List Cell) → List Cell
entry_by sh place target names body =
    with_value_or_body_code sh place (codes "property") (has (codes "value") names) names body ++ form_code sh (does (op.SetProperty target mode.Entry) place)

-- two parts, of which the first runs where the test is true
abbrev pub tested_by : Shape → Place → (names : List (List ℕ)) → (first second : List Cell) → List Cell
tested_by sh place names first second = arranged_code sh place (codes "test" ∷ []) names 0 ++ either_code (up 1 sh) (up 0 sh) place (instr.JumpIf false) first second

-- `c:if`
abbrev pub if_by : Shape → Place → Option Variable → (names : List (List ℕ)) → (body : List Cell) → List Cell
if_by sh place x names body = tested_by sh place names (form_code sh (sets_given place x (truth true)) ++ body) (form_code sh (sets_given place x (truth false)))

-- a loop
abbrev pub each_by : Shape → Place → LoopKind → (body : List Cell) → List Cell
each_by sh place kind body = cell (up (length kind.names) sh) place (instr.LoopStart kind) ∷ rounds_code sh place body

-- the code of the action
abbrev pub enclosing_code : Enclosing → Shape → Place → (names : List (List ℕ)) → (body : List Cell) → List Cell
enclosing_code action.Out sh place names body = out_by sh place names body
enclosing_code (action.Set x) sh place names body = set_by sh place (variable_of x) names body
enclosing_code (action.SetEntry target) sh place names body = entry_by sh place target names body
enclosing_code (action.If x) sh place names body = if_by sh place (option_map variable_of x) names body
enclosing_code (action.ForEach x status) sh place names body = each_by sh place (loop_kind over.Items names x status) body
enclosing_code (action.ForTokens x status) sh place names body = each_by sh place (loop_kind over.Tokens names x status) body
