-- Values as constants, and the value of an attribute before the others.
use Rattle.std.proofs.Common.{◌≡◌, ℕ, Bool, true, false, List, [], ◌++◌, length, refl, sym, ap}
use Rattle.std.proofs.lemmas.List.{append-nil}
use Rattle.page_code.specs.Shapes.{keeping, up}
use Rattle.page_code.specs.declared.code.Cell.{Cell}
use Rattle.page_code.specs.declared.shape.Shape.{Shape}
use Rattle.code_forms.specs.Codes.{form_code}
use Rattle.code_forms.specs.Forms.{Form}
use Rattle.code_lowering.specs.Values.{kept_form, with_value}
use Rattle.page_meaning.specs.Attributes.{Coercion, as_it_is, to_text, to_text_or_null, to_number, to_number_or_null, to_truth, to_truth_or_null, unevaluated}
use Rattle.pg_text.specs.declared.place.Place.{Place}
use Rattle.pg_value.proofs.Inverses.{value_of-datum_of}
use Rattle.code_expressions.specs.Values.{coercing_code, kept_code}

pub ruleset inverses = (value_of-datum_of)

-- the code of a value with what coerces it; none of a fragment
abbrev pub value_code : Shape → Place → Coercion → List Cell → List Cell
value_code sh place unevaluated value = []
value_code sh place c value = value ++ coercing_code sh place c

-- what stands open behind it
abbrev pub behind_value : Shape → Coercion → Shape
behind_value sh unevaluated = sh
behind_value sh c = up 1 sh

-- a value before the others
pub with_value_code : (sh : Shape) (place : Place) (c : Coercion) (name : List ℕ) (names : List (List ℕ)) (value : Form 0 1) (rest : Form 0 (length names))
    → form_code sh (with_value c name names place value rest) ≡ value_code sh place c (form_code sh value) ++ form_code (behind_value sh c) rest
with_value_code sh place unevaluated name names value rest = refl
with_value_code sh place as_it_is name names value rest = ap (λ code. code ++ form_code (up 1 sh) rest) (sym (append-nil (form_code sh value)))
with_value_code sh place to_text name names value rest = refl
with_value_code sh place to_text_or_null name names value rest = refl
with_value_code sh place to_number name names value rest = refl
with_value_code sh place to_number_or_null name names value rest = refl
with_value_code sh place to_truth name names value rest = refl
with_value_code sh place to_truth_or_null name names value rest = refl

-- the text that a part writes
pub kept_form_code : (sh : Shape) (place : Place) (trim : Bool) (part : Form 0 0) → form_code sh (kept_form place trim part) ≡ kept_code sh place trim (form_code (keeping sh) part)
kept_form_code sh place true part = refl
kept_form_code sh place false part = refl
