-- The values of attributes as they stand in memory.
use Rattle.std.specs.Prelude.{ℕ, Bool, true, false, List, [], ◌++◌, map, if◌then◌else◌}
use Rattle.code_expressions.specs.Values.{coercing_code, coercion_of}
use Rattle.code_expressions.specs.declared.values.Evaluation.{Evaluation}
use Rattle.code_expressions.specs.declared.values.Evaluation.TheVariants as evaluation
use Rattle.page_acts.specs.Views.{acts_row}
use Rattle.page_acts.specs.declared.acts.ActAttribute.{ActAttribute, Written, Given'}
use Rattle.page_code.specs.Shapes.{up}
use Rattle.page_code.specs.declared.code.Cell.{Cell}
use Rattle.page_code.specs.declared.shape.Shape.{Shape}
use Rattle.code_forms.specs.Forms.{Form, both}
use Rattle.code_lowering.specs.Expressions.{visits}
use Rattle.code_lowering.specs.Lowering.{nodes_form}
use Rattle.code_lowering.specs.Values.{kept_form, parts_form}
use Rattle.page_meaning.specs.Page.{Page}
use Rattle.unit_meaning.specs.Named.{part_of}
use Rattle.pg_text.specs.declared.place.Place.{Place}
use Rattle.unit_nodes.specs.Views.{part_of as part_view}

-- the name of an attribute
abbrev pub name_of : ActAttribute → List ℕ
name_of (Written name parts place) = name.now
name_of (Given' name trim s body place) = name

-- where its faults stand
abbrev pub attribute_place : ActAttribute → Place
attribute_place (Written name parts place) = place.now
attribute_place (Given' name trim s body place) = place.now

-- its value, before it is coerced
abbrev pub value_form : Page → ActAttribute → Form 0 1
value_form page (Written name parts place) = parts_form place.now (map part_of (map part_view parts.now))
value_form page (Given' name trim s body place) = both (visits 1 place.now) (kept_form place.now trim (nodes_form page (acts_row body)))

-- whether an attribute is a fragment, which has no value
abbrev pub is_fragment : Evaluation → Bool
is_fragment evaluation.Unevaluated = true
is_fragment evaluation.AsItIs = false
is_fragment (evaluation.To to) = false

-- the code of a value with what coerces it; none of a fragment
abbrev pub coerced_code : Shape → Place → Evaluation → (value : List Cell) → List Cell
coerced_code sh place e value = if is_fragment e then [] else value ++ coercing_code sh place (coercion_of e)

-- what stands open behind it
abbrev pub behind_value : Shape → Evaluation → Shape
behind_value sh e = if is_fragment e then sh else up 1 sh
