-- The codes of the parts of a value, one after the other.
use Rattle.std.proofs.Common.{◌≡◌, ℕ, ◌+◌, ◌<◌, ◌≤◌, List, [], ◌∷◌, ◌++◌, length, drop, get_or, map, refl, sym, ap, ◌∙◌, append_assoc, arith}
use Rattle.std.proofs.lemmas.List.{append-nil, drop_all, length-map}
use Rattle.page_code.specs.Shapes.{up}
use Rattle.page_code.specs.declared.code.Cell.{Cell}
use Rattle.page_code.specs.declared.op.Op.TheVariants as op
use Rattle.page_code.specs.declared.shape.Shape.{Shape}
use Rattle.code_forms.specs.Codes.{form_code}
use Rattle.code_forms.specs.Forms.{does}
use Rattle.code_lowering.specs.Values.{part_form, parts_form, texts_form}
use Rattle.page_meaning.specs.Page.{Part, words, expression}
use Rattle.unit_meaning.specs.Named.{part_of}
use Rattle.pg_text.specs.declared.place.Place.{Place}
use Rattle.unit_nodes.specs.Views.{part_of as part_view}
use Rattle.unit_nodes.specs.declared.unit.UnitPart.{UnitPart}
use Rattle.code_expressions.proofs.ListLemmas.{next_of}

-- the parts as the meaning has them
abbrev pub meant : List UnitPart → List Part
meant parts = map part_of (map part_view parts)

abbrev pub texts_code : Shape → Place → List UnitPart → List Cell
texts_code sh place parts = form_code sh (texts_form place (meant parts))

module _ (sh : Shape) (place : Place) where
  -- one part more
  pub texts_from : (total : List Cell) (parts : List UnitPart) (i : ℕ) (p : UnitPart) (code more : List Cell) (above : Shape) → i < length parts → p ≡ get_or parts i p
      → more ≡ code ++ form_code sh (part_form place (part_of (part_view p))) → above ≡ up 1 sh → code ++ texts_code sh place (drop i parts) ≡ total
      → more ++ texts_code above place (drop (i + 1) parts) ≡ total
  texts_from total parts i p code more above lt is made stands whole =
      ap (λ s. more ++ texts_code s place (drop (i + 1) parts)) stands
      ∙ ap (λ c. c ++ texts_code (up 1 sh) place (drop (i + 1) parts)) made
      ∙ append_assoc code (form_code sh (part_form place (part_of (part_view p)))) (texts_code (up 1 sh) place (drop (i + 1) parts))
      ∙ ap (λ rest. code ++ texts_code sh place rest) (sym (next_of parts i p lt is)) ∙ whole

  pub texts_end : (total : List Cell) (parts : List UnitPart) (i : ℕ) (code : List Cell) → length parts ≤ i → code ++ texts_code sh place (drop i parts) ≡ total → code ≡ total
  texts_end total parts i code past whole = sym (append-nil code) ∙ ap (λ rest. code ++ texts_code sh place rest) (sym (drop_all i parts past)) ∙ whole

  -- one part alone
  pub alone_is : (parts : List UnitPart) (p : UnitPart) → length parts ≡ 1 → p ≡ get_or parts 0 p → form_code sh (parts_form place (part_of (part_view p) ∷ [])) ≡ form_code sh (parts_form place (meant parts))
  alone_is [] p one is = absurd (omega (arith, one))
  alone_is (q ∷ []) p one is = ap (λ x. form_code sh (parts_form place (part_of (part_view x) ∷ []))) is
  alone_is (q ∷ r ∷ rest) p one is = absurd (omega (arith, one))

  joined_as : (ps : List Part) → (length ps ≡ 1 → ⊥) → form_code sh (texts_form place ps) ++ form_code sh (does (op.Concat (length ps)) place) ≡ form_code sh (parts_form place ps)
  joined_as [] many = refl
  joined_as (words w ∷ rest) many = refl
  joined_as (expression e ∷ []) many = absurd (many refl)
  joined_as (expression e ∷ p ∷ rest) many = refl

  -- none or several
  pub joined_is : (parts : List UnitPart) → (length parts ≡ 1 → ⊥)
      → form_code sh (texts_form place (meant parts)) ++ form_code sh (does (op.Concat (length parts)) place) ≡ form_code sh (parts_form place (meant parts))
  joined_is parts many =
      ap (λ n. form_code sh (texts_form place (meant parts)) ++ form_code sh (does (op.Concat n) place)) (sym same) ∙ joined_as (meant parts) (λ one. many (sym same ∙ one))
    where
      same : length (meant parts) ≡ length parts
      same = length-map (map part_view parts) part_of ∙ length-map parts part_view
