-- The forms of the values of attributes: of their parts, of what `jsp:attribute` gives, and of what each is coerced to.
use Rattle.std.specs.Prelude.{ℕ, Bool, true, false, List, [], ◌∷◌, ◌++◌, length}
use Rattle.page_code.specs.declared.op.Op.TheVariants as op
use Rattle.page_code.specs.declared.operands.Coercion.TheVariants as coercion
use Rattle.page_meaning.specs.Attributes.{Coercion, as_it_is, to_text, to_text_or_null, to_number, to_number_or_null, to_truth, to_truth_or_null, unevaluated, name_of_evaluated}
use Rattle.page_meaning.specs.Page.{Part, words, expression}
use Rattle.pg_text.specs.declared.place.Place.{Place}
use Rattle.pg_value.specs.Datum.{text}
use Rattle.pg_value.specs.declared.function.Function.TheVariants as function
use Rattle.code_lowering.specs.Expressions.{constant, coerces, tree_form}
use Rattle.code_forms.specs.Forms.{Form, nothing, both, above, does, kept}

-- a part of an attribute's value as a text
abbrev pub part_form : Place → Part → Form 0 1
part_form place (words w) = constant place (text w)
part_form place (expression e) = both (tree_form place e) (coerces coercion.Text place)

-- each part as a text
abbrev pub texts_form : Place → (parts : List Part) → Form 0 (length parts)
texts_form place [] = nothing
texts_form place (p ∷ rest) = both (part_form place p) (above 1 (texts_form place rest))

-- the value of parts: of one expression alone its value, else the text of all joined
abbrev pub parts_form : Place → List Part → Form 0 1
parts_form place (expression e ∷ []) = tree_form place e
parts_form place parts = both (texts_form place parts) (does (op.Concat (length parts)) place)

-- the text that a part writes, trimmed where that is asked
abbrev pub kept_form : Place → (trim : Bool) → Form 0 0 → Form 0 1
kept_form place true part = both (kept part place) (does (op.Call function.Trim) place)
kept_form place false part = kept part place

-- a value before the others, coerced behind its evaluation; none of a fragment
abbrev pub with_value :
    (c : Coercion) (name : List ℕ) (names : List (List ℕ)) → Place → Form 0 1 → Form 0 (length names) → Form 0 (length (name_of_evaluated c name ++ names))
with_value unevaluated name names place value rest = rest
with_value as_it_is name names place value rest = both value (above 1 rest)
with_value to_text name names place value rest = both (both value (coerces coercion.Text place)) (above 1 rest)
with_value to_text_or_null name names place value rest = both (both value (coerces coercion.TextOrNull place)) (above 1 rest)
with_value to_number name names place value rest = both (both value (coerces coercion.Number place)) (above 1 rest)
with_value to_number_or_null name names place value rest = both (both value (coerces coercion.NumberOrNull place)) (above 1 rest)
with_value to_truth name names place value rest = both (both value (coerces coercion.Truth place)) (above 1 rest)
with_value to_truth_or_null name names place value rest = both (both value (coerces coercion.TruthOrNull place)) (above 1 rest)
