-- Actions around a body and on an address, from the codes of their parts.
use Rattle.std.proofs.Common.{◌≡◌, ℕ, List, ◌++◌, refl, ap, ◌∙◌}
use Rattle.code_actions.proofs.Actions.{addressing_is, enclosing_is}
use Rattle.code_actions.specs.Addressing.{addressing_code, addressing_evaluations}
use Rattle.code_actions.specs.Enclosing.{enclosing_code, enclosing_evaluations, enclosing_ground}
use Rattle.code_actions.specs.Evaluations.{coercions}
use Rattle.code_actions.specs.declared.evaluations.Evaluations.{Evaluations}
use Rattle.page_acts.specs.Views.{addressing_node, enclosing_node}
use Rattle.page_acts.specs.declared.addressing.Addressing.{Addressing}
use Rattle.page_acts.specs.declared.addressing.Addressing.TheVariants as addressing
use Rattle.page_acts.specs.declared.enclosing.Enclosing.{Enclosing}
use Rattle.page_acts.specs.declared.enclosing.Enclosing.TheVariants as enclosing
use Rattle.page_code.specs.Shapes.{up}
use Rattle.page_code.specs.declared.code.Cell.{Cell}
use Rattle.page_code.specs.declared.shape.Shape.{Shape}
use Rattle.code_forms.specs.Codes.{form_code}
use Rattle.code_lowering.specs.Lowering.{attributes_form, node_form, node_visits, nodes_form, param_count, params_form}
use Rattle.page_meaning.specs.Attributes.{evaluated_names}
use Rattle.page_meaning.specs.Page.{Page, Attributes, Nodes, Params}
use Rattle.pg_text.specs.declared.place.Place.{Place}
use Rattle.code_nodes.specs.Actions.{around_by, around_code, on_address_by, on_address_code}

-- each is visited once
pub enclosing_visits : (a : Enclosing) (list : Attributes) (body : Nodes) (place : Place) → node_visits (enclosing_node a list body place) ≡ 1
enclosing_visits enclosing.Out list body place = refl
enclosing_visits (enclosing.Set x) list body place = refl
enclosing_visits (enclosing.SetEntry target) list body place = refl
enclosing_visits (enclosing.If x) list body place = refl
enclosing_visits (enclosing.ForEach x status) list body place = refl
enclosing_visits (enclosing.ForTokens x status) list body place = refl

pub addressing_visits : (a : Addressing) (list : Attributes) (ps : Params) (place : Place) → node_visits (addressing_node a list ps place) ≡ 1
addressing_visits (addressing.Import x) list ps place = refl
addressing_visits (addressing.Url x) list ps place = refl
addressing_visits addressing.Redirect list ps place = refl
addressing_visits (addressing.Include flush) list ps place = refl
addressing_visits addressing.Forward list ps place = refl

-- how often they are
pub ruleset action_visits = (enclosing_visits, addressing_visits)

module _ (sh : Shape) (place : Place) (page : Page) (list : Attributes) where
  -- the code of the values, and their names, under these coercions
  abbrev values_by : Evaluations → List Cell
  values_by e = form_code sh (attributes_form page list (coercions e))

  abbrev names_by : Evaluations → List (List ℕ)
  names_by e = evaluated_names (coercions e) list

  pub around_is : (a : Enclosing) (nodes : Nodes) (e : Evaluations) (names : List (List ℕ)) (within : Shape) (body : List Cell) → e ≡ enclosing_evaluations a → names ≡ names_by e
      → within ≡ enclosing_ground a names sh → body ≡ form_code within (nodes_form page nodes) → enclosing_code a sh place names body ≡ around_code sh place page list a nodes
  around_is a nodes e names within body e_is names_are within_is body_is =
      ap (λ cells. enclosing_code a sh place names cells) (body_is ∙ ap (λ s. form_code s (nodes_form page nodes)) within_is)
      ∙ ap (λ ns. around_by a ns sh place page nodes) (names_are ∙ ap names_by e_is)

  pub enclosed_is : (a : Enclosing) (nodes : Nodes) (e : Evaluations) (values behind : List Cell) → e ≡ enclosing_evaluations a → values ≡ values_by e
      → behind ≡ around_code sh place page list a nodes → values ++ behind ≡ form_code sh (node_form page (enclosing_node a list nodes place))
  enclosed_is a nodes e values behind e_is values_are behind_is =
      ap (λ cells. cells ++ behind) (values_are ∙ ap values_by e_is) ∙ ap (λ cells. values_by (enclosing_evaluations a) ++ cells) behind_is ∙ enclosing_is sh place page list a nodes

  pub on_address_is : (a : Addressing) (ps : Params) (e : Evaluations) (names : List (List ℕ)) (count : ℕ) (given : List Cell) (above : Shape) → e ≡ addressing_evaluations a
      → names ≡ names_by e → above ≡ up 1 sh → given ≡ form_code above (params_form page ps) → count ≡ param_count ps
      → addressing_code a sh place names count given ≡ on_address_code sh place page list a ps
  on_address_is a ps e names count given above e_is names_are above_is given_is counted =
      ap (λ cells. addressing_code a sh place names count cells) (given_is ∙ ap (λ s. form_code s (params_form page ps)) above_is)
      ∙ ap (λ n. addressing_code a sh place names n (form_code (up 1 sh) (params_form page ps))) counted
      ∙ ap (λ ns. on_address_by a ns sh place page ps) (names_are ∙ ap names_by e_is)

  pub addressed_is : (a : Addressing) (ps : Params) (e : Evaluations) (values behind : List Cell) → e ≡ addressing_evaluations a → values ≡ values_by e
      → behind ≡ on_address_code sh place page list a ps → values ++ behind ≡ form_code sh (node_form page (addressing_node a list ps place))
  addressed_is a ps e values behind e_is values_are behind_is =
      ap (λ cells. cells ++ behind) (values_are ∙ ap values_by e_is) ∙ ap (λ cells. values_by (addressing_evaluations a) ++ cells) behind_is ∙ addressing_is sh place page list a ps
