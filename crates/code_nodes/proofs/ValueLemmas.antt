-- The values of attributes, one before the others.
use Rattle.std.proofs.Common.{◌≡◌, ℕ, ◌+◌, ◌<◌, List, ◌++◌, codes, length, drop, get_or, refl, sym, ap, subst, ◌∙◌, append_assoc}
use Rattle.std.proofs.lemmas.List.{append-nil}
use Rattle.code_expressions.specs.Values.{coercion_of}
use Rattle.code_expressions.specs.declared.values.Evaluation.{Evaluation}
use Rattle.code_expressions.specs.declared.values.Evaluation.TheVariants as evaluation
use Rattle.page_acts.specs.Views.{attribute_before, attributes_of}
use Rattle.page_acts.specs.declared.acts.ActAttribute.{ActAttribute, Written, Given'}
use Rattle.page_code.specs.Shapes.{up}
use Rattle.page_code.specs.declared.code.Cell.{Cell}
use Rattle.page_code.specs.declared.operands.Coercion.TheVariants as coercion
use Rattle.page_code.specs.declared.shape.Shape.{Shape}
use Rattle.code_forms.specs.Codes.{form_code}
use Rattle.code_forms.specs.Forms.{Form}
use Rattle.code_lowering.specs.Lowering.{attributes_form}
use Rattle.code_lowering.specs.Values.{with_value}
use Rattle.page_meaning.specs.Attributes.{Coercion, evaluated_names, name_of_evaluated}
use Rattle.page_meaning.specs.Beans.{place_or, value_place}
use Rattle.page_meaning.specs.Page.{Page, Attributes}
use Rattle.pg_text.specs.declared.place.Place.{Place}
use Rattle.std.specs.Str.{bytes_eq}
use Rattle.code_nodes.specs.Values.{attribute_place, behind_value, coerced_code, name_of, value_form}
use Rattle.code_nodes.proofs.ListLemmas.{next_of}

-- the names of one attribute and of the others
pub names_before : (c : List ℕ → Coercion) (a : ActAttribute) (rest : Attributes) → evaluated_names c (attribute_before a rest) ≡ name_of_evaluated (c (name_of a)) (name_of a) ++ evaluated_names c rest
names_before c (Written name parts place) rest = refl
names_before c (Given' name trim s body place) rest = refl

-- where a value stands, by the first attribute
pub place_before : (a : ActAttribute) (rest : Attributes) (place : Place)
    → value_place (attribute_before a rest) place ≡ place_or (bytes_eq (name_of a) (codes "value")) (attribute_place a) (value_place rest place)
place_before (Written name parts at) rest place = refl
place_before (Given' name trim s body at) rest place = refl

-- a value before the others
value_before : (sh : Shape) (place : Place) (e : Evaluation) (name : List ℕ) (names : List (List ℕ)) (value : Form 0 1) (rest : Form 0 (length names))
    → form_code sh (with_value (coercion_of e) name names place value rest) ≡ coerced_code sh place e (form_code sh value) ++ form_code (behind_value sh e) rest
value_before sh place evaluation.Unevaluated name names value rest = refl
value_before sh place evaluation.AsItIs name names value rest = ap (λ code. code ++ form_code (up 1 sh) rest) (sym (append-nil (form_code sh value)))
value_before sh place (evaluation.To coercion.Text) name names value rest = refl
value_before sh place (evaluation.To coercion.TextOrNull) name names value rest = refl
value_before sh place (evaluation.To coercion.Number) name names value rest = refl
value_before sh place (evaluation.To coercion.NumberOrNull) name names value rest = refl
value_before sh place (evaluation.To coercion.Truth) name names value rest = refl
value_before sh place (evaluation.To coercion.TruthOrNull) name names value rest = refl

module _ (page : Page) (c : List ℕ → Coercion) where
  -- the value of an attribute before those of the others
  pub attribute_step : (sh : Shape) (a : ActAttribute) (e : Evaluation) (rest : Attributes) → coercion_of e ≡ c (name_of a)
      → form_code sh (attributes_form page (attribute_before a rest) c)
      ≡ coerced_code sh (attribute_place a) e (form_code sh (value_form page a)) ++ form_code (behind_value sh e) (attributes_form page rest c)
  attribute_step sh (Written name parts place) e rest is =
      subst (λ k. form_code sh (with_value k name.now (evaluated_names c rest) place.now (value_form page (Written name parts place)) (attributes_form page rest c))
      ≡ coerced_code sh place.now e (form_code sh (value_form page (Written name parts place))) ++ form_code (behind_value sh e) (attributes_form page rest c)) is
      (value_before sh place.now e name.now (evaluated_names c rest) (value_form page (Written name parts place)) (attributes_form page rest c))
  attribute_step sh (Given' name trim s body place) e rest is =
      subst (λ k. form_code sh (with_value k name (evaluated_names c rest) place.now (value_form page (Given' name trim s body place)) (attributes_form page rest c))
      ≡ coerced_code sh place.now e (form_code sh (value_form page (Given' name trim s body place))) ++ form_code (behind_value sh e) (attributes_form page rest c)) is
      (value_before sh place.now e name (evaluated_names c rest) (value_form page (Given' name trim s body place)) (attributes_form page rest c))

  abbrev pub values_code : Shape → List ActAttribute → List Cell
  values_code sh list = form_code sh (attributes_form page (attributes_of list) c)

  -- one value more
  pub values_from : (sh : Shape) (total : List Cell) (list : List ActAttribute) (i : ℕ) (a : ActAttribute) (e : Evaluation) (code more : List Cell) (above : Shape) → i < length list
      → a ≡ get_or list i a → coercion_of e ≡ c (name_of a) → more ≡ code ++ coerced_code sh (attribute_place a) e (form_code sh (value_form page a)) → above ≡ behind_value sh e
      → code ++ values_code sh (drop i list) ≡ total → more ++ values_code above (drop (i + 1) list) ≡ total
  values_from sh total list i a e code more above lt is evaluated made stands whole =
      ap (λ s. more ++ values_code s (drop (i + 1) list)) stands
      ∙ ap (λ cells. cells ++ values_code (behind_value sh e) (drop (i + 1) list)) made
      ∙ append_assoc code (coerced_code sh (attribute_place a) e (form_code sh (value_form page a))) (values_code (behind_value sh e) (drop (i + 1) list))
      ∙ ap (λ cells. code ++ cells) (sym (attribute_step sh a e (attributes_of (drop (i + 1) list)) evaluated))
      ∙ ap (λ rest. code ++ values_code sh rest) (sym (next_of list i a lt is)) ∙ whole
