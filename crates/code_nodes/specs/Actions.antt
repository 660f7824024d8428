-- Actions with attributes, behind the values of these.
use Rattle.std.specs.Prelude.{ℕ, List, codes}
use Rattle.code_actions.specs.Addressing.{addressing_code, addressing_evaluations}
use Rattle.code_actions.specs.Enclosing.{enclosing_code, enclosing_evaluations, enclosing_ground}
use Rattle.code_actions.specs.Evaluations.{coercions}
use Rattle.code_actions.specs.declared.evaluations.Evaluations.TheVariants as evaluations
use Rattle.page_acts.specs.declared.addressing.Addressing.{Addressing}
use Rattle.page_acts.specs.declared.enclosing.Enclosing.{Enclosing}
use Rattle.page_code.specs.Shapes.{up}
use Rattle.page_code.specs.declared.code.Cell.{Cell}
use Rattle.page_code.specs.declared.shape.Shape.{Shape}
use Rattle.code_forms.specs.Codes.{form_code}
use Rattle.code_lowering.specs.Lowering.{has, nodes_form, param_count, params_form, property_form}
use Rattle.page_meaning.specs.Attributes.{evaluated_names}
use Rattle.page_meaning.specs.Beans.{value_place}
use Rattle.page_meaning.specs.Page.{Page, Attributes, Nodes, Params, Property}
use Rattle.pg_text.specs.declared.place.Place.{Place}

-- around a body, where its attributes with a value have these names
abbrev pub around_by : Enclosing → (names : List (List ℕ)) → Shape → Place → Page → Nodes → List Cell
around_by a names sh place page body = enclosing_code a sh place names (form_code (enclosing_ground a names sh) (nodes_form page body))

abbrev pub around_code : Shape → Place → Page → Attributes → Enclosing → Nodes → List Cell
around_code sh place page list a body = around_by a (evaluated_names (coercions (enclosing_evaluations a)) list) sh place page body

-- on an address
abbrev pub on_address_by : Addressing → (names : List (List ℕ)) → Shape → Place → Page → Params → List Cell
on_address_by a names sh place page ps = addressing_code a sh place names (param_count ps) (form_code (up 1 sh) (params_form page ps))

abbrev pub on_address_code : Shape → Place → Page → Attributes → Addressing → Params → List Cell
on_address_code sh place page list a ps = on_address_by a (evaluated_names (coercions (addressing_evaluations a)) list) sh place page ps

-- `jsp:setProperty`, where its attributes with a value have these names
abbrev pub property_set_by : (names : List (List ℕ)) → Shape → Place → Attributes → (name : List ℕ) → Property → List Cell
property_set_by names sh place list name property = form_code sh (property_form place name property (value_place list place) (has (codes "value") names) names)

abbrev pub property_set_code : Shape → Place → Attributes → (name : List ℕ) → Property → List Cell
property_set_code sh place list name property = property_set_by (evaluated_names (coercions evaluations.AsTheyAre) list) sh place list name property
