-- A param behind its visit.
use Rattle.std.specs.Prelude.{List, codes}
use Rattle.code_actions.specs.Bodies.{with_value_or_body_code}
use Rattle.page_code.specs.declared.code.Cell.{Cell}
use Rattle.page_code.specs.declared.shape.Shape.{Shape}
use Rattle.code_forms.specs.Forms.{Form, both}
use Rattle.code_lowering.specs.Expressions.{visits}
use Rattle.code_lowering.specs.Lowering.{attributes_form, has, names_in, nodes_form, with_value_or_body}
use Rattle.page_meaning.specs.Attributes.{coercion_in}
use Rattle.page_meaning.specs.Coercions.{param_coercions}
use Rattle.page_meaning.specs.Page.{Page, Attributes, Nodes}
use Rattle.pg_text.specs.declared.place.Place.{Place}

-- its name and its value
abbrev pub param_form : Page → Attributes → (body : Nodes) → Place → Form 0 2
param_form page list body place =
    both (visits 1 place) (both (attributes_form page list (coercion_in param_coercions))
    (with_value_or_body place (codes "name") (has (codes "value") (names_in param_coercions list)) (names_in param_coercions list) (nodes_form page body)))

-- the code of these, behind the values of the attributes, from the code of the body
abbrev pub name_and_value_code : Shape → Place → Attributes → (body : List Cell) → List Cell
name_and_value_code sh place list body = with_value_or_body_code sh place (codes "name") (has (codes "value") (names_in param_coercions list)) (names_in param_coercions list) body
