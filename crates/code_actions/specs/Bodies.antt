-- The codes of values that an attribute or a body gives, from the code of the body.
use Rattle.std.specs.Prelude.{ℕ, Bool, true, false, List, [], ◌∷◌, ◌++◌, codes}
use Rattle.code_expressions.specs.Values.{kept_code}
use Rattle.page_code.specs.Shapes.{up}
use Rattle.page_code.specs.declared.code.Cell.{Cell}
use Rattle.page_code.specs.declared.shape.Shape.{Shape}
use Rattle.code_forms.specs.Codes.{arranged_code}
use Rattle.pg_text.specs.declared.place.Place.{Place}

-- the value that was given, or else the trimmed text of the body
abbrev pub value_or_body_code : Shape → Place → (has_value : Bool) → (names : List (List ℕ)) → (body : List Cell) → List Cell
value_or_body_code sh place true names body = arranged_code sh place (codes "value" ∷ []) names 0
value_or_body_code sh place false names body = arranged_code sh place [] names 0 ++ kept_code sh place true body

-- the same above the value of another attribute
abbrev pub with_value_or_body_code : Shape → Place → (first : List ℕ) → (has_value : Bool) → (names : List (List ℕ)) → (body : List Cell) → List Cell
with_value_or_body_code sh place first true names body = arranged_code sh place (first ∷ codes "value" ∷ []) names 0
with_value_or_body_code sh place first false names body = arranged_code sh place (first ∷ []) names 0 ++ kept_code (up 1 sh) place true body
