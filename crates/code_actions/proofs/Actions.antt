-- The code of each form of an action, from the codes of its parts.
use Rattle.std.proofs.Common.{◌≡◌, ℕ, ◌+◌, Bool, true, false, List, [], ◌∷◌, ◌++◌, codes, length, refl, sym, ap, ◌∙◌, append_assoc, length-append}
use Rattle.code_actions.specs.Addressing.{addressing_code, addressing_evaluations}
use Rattle.code_actions.specs.Bodies.{value_or_body_code, with_value_or_body_code}
use Rattle.code_actions.specs.Enclosing.{enclosing_code, enclosing_evaluations, enclosing_ground}
use Rattle.code_actions.specs.Evaluations.{coercions}
use Rattle.code_actions.specs.Outputs.{out_code, out_ground}
use Rattle.page_acts.specs.Views.{addressing_node, enclosing_node, variable_of}
use Rattle.page_acts.specs.declared.addressing.Addressing.{Addressing}
use Rattle.page_acts.specs.declared.addressing.Addressing.TheVariants as addressing
use Rattle.page_acts.specs.declared.enclosing.Enclosing.{Enclosing}
use Rattle.page_acts.specs.declared.enclosing.Enclosing.TheVariants as enclosing
use Rattle.page_code.specs.Shapes.{cell, keeping, up}
use Rattle.page_code.specs.declared.code.Cell.{Cell}
use Rattle.page_code.specs.declared.instr.Instr.TheVariants as instr
use Rattle.page_code.specs.declared.op.Op.TheVariants as op
use Rattle.page_code.specs.declared.operands.PropertyMode.TheVariants as mode
use Rattle.page_code.specs.declared.shape.Shape.{Shape}
use Rattle.code_forms.specs.Codes.{arranged_code, either_code, form_code}
use Rattle.code_forms.specs.Forms.{Form, does}
use Rattle.code_lowering.specs.Lowering.{attributes_form, has, node_form, nodes_form, out_form, out_wanted, param_count, params_form, sets_or_removes, value_or_body, with_value_or_body}
use Rattle.page_meaning.specs.Attributes.{evaluated_names}
use Rattle.page_meaning.specs.Page.{Page, Attributes, Nodes, Params}
use Rattle.pg_text.specs.declared.place.Place.{Place}

-- the value that was given, or else the text of the body
pub value_or_body_is : (sh : Shape) (place : Place) (has_value : Bool) (names : List (List ℕ)) (body : Form 0 0)
    → form_code sh (value_or_body place has_value names body) ≡ value_or_body_code sh place has_value names (form_code (keeping sh) body)
value_or_body_is sh place true names body = refl
value_or_body_is sh place false names body = refl

pub with_value_or_body_is : (sh : Shape) (place : Place) (first : List ℕ) (has_value : Bool) (names : List (List ℕ)) (body : Form 0 0)
    → form_code sh (with_value_or_body place first has_value names body) ≡ with_value_or_body_code sh place first has_value names (form_code (keeping (up 1 sh)) body)
with_value_or_body_is sh place first true names body = refl
with_value_or_body_is sh place first false names body = refl

-- `c:out` behind its values
pub out_is : (sh : Shape) (place : Place) (default escape : Bool) (body : Form 0 0)
    → form_code sh (out_form place default escape body) ≡ out_code sh place default escape (form_code (out_ground escape sh) body)
out_is sh place true true body = refl
out_is sh place true false body = refl
out_is sh place false true body = refl
out_is sh place false false body = refl

module _ (sh : Shape) (place : Place) (page : Page) (list : Attributes) where
  -- the names of the attributes with a value, where an action is around a body or on an address
  abbrev pub names_around : Enclosing → List (List ℕ)
  names_around a = evaluated_names (coercions (enclosing_evaluations a)) list

  abbrev pub names_on : Addressing → List (List ℕ)
  names_on a = evaluated_names (coercions (addressing_evaluations a)) list

  -- an action around a body
  pub enclosing_is : (a : Enclosing) (body : Nodes)
      → form_code sh (attributes_form page list (coercions (enclosing_evaluations a)))
      ++ enclosing_code a sh place (names_around a) (form_code (enclosing_ground a (names_around a) sh) (nodes_form page body))
      ≡ form_code sh (node_form page (enclosing_node a list body place))
  enclosing_is enclosing.Out body =
      let names = names_around enclosing.Out in
      let default = has (codes "default") names in
      let escape = has (codes "escapeXml") names in
      ap (λ cells. form_code sh (attributes_form page list (coercions (enclosing_evaluations enclosing.Out))) ++ (arranged_code sh place (out_wanted default escape) names 0 ++ cells))
      (sym (out_is sh place default escape (nodes_form page body)))
  enclosing_is (enclosing.Set x) body =
      let names = names_around (enclosing.Set x) in
      ap (λ cells. form_code sh (attributes_form page list (coercions (enclosing_evaluations (enclosing.Set x))))
      ++ (cells ++ form_code sh (sets_or_removes place (variable_of x).scope (variable_of x).name)))
      (sym (value_or_body_is sh place (has (codes "value") names) names (nodes_form page body)))
  enclosing_is (enclosing.SetEntry target) body =
      let names = names_around (enclosing.SetEntry target) in
      ap (λ cells. form_code sh (attributes_form page list (coercions (enclosing_evaluations (enclosing.SetEntry target))))
      ++ (cells ++ form_code sh (does (op.SetProperty target mode.Entry) place)))
      (sym (with_value_or_body_is sh place (codes "property") (has (codes "value") names) names (nodes_form page body)))
  enclosing_is (enclosing.If x) body = refl
  enclosing_is (enclosing.ForEach x status) body = refl
  enclosing_is (enclosing.ForTokens x status) body = refl

  -- an action on an address
  pub addressing_is : (a : Addressing) (ps : Params)
      → form_code sh (attributes_form page list (coercions (addressing_evaluations a)))
      ++ addressing_code a sh place (names_on a) (param_count ps) (form_code (up 1 sh) (params_form page ps))
      ≡ form_code sh (node_form page (addressing_node a list ps place))
  addressing_is (addressing.Import x) ps = refl
  addressing_is (addressing.Url x) ps = refl
  addressing_is addressing.Redirect ps = refl
  addressing_is (addressing.Include flush) ps = refl
  addressing_is addressing.Forward ps = refl

-- one of two parts, the first with the jump over the second behind it
pub either_is : (sh : Shape) (place : Place) (first second : List Cell)
    → (cell (up 1 sh) place (instr.JumpIf false (length first + 1)) ∷ first) ++ (cell (up 0 sh) place (instr.Jump (length second)) ∷ second)
    ≡ either_code (up 1 sh) (up 0 sh) place (instr.JumpIf false) first second
either_is sh place first second =
    ap (λ n. cell (up 1 sh) place (instr.JumpIf false n) ∷ (first ++ (over ∷ second))) (sym (length-append first (over ∷ [])))
    ∙ ap (λ cells. cell (up 1 sh) place (instr.JumpIf false (length (first ++ over ∷ []))) ∷ cells) (sym (append_assoc first (over ∷ []) second))
  where
    over : Cell
    over = cell (up 0 sh) place (instr.Jump (length second))
