-- The values of attributes: of their parts, of what `jsp:attribute` gives, and what each is coerced to.
use Rattle.std.specs.Prelude.{ℕ, Bool, List, [], ◌∷◌, ◌++◌, Option, Some, Result, Ok}
use Rattle.std.specs.Map.{lookup}
use Rattle.std.specs.Option.{unwrap_or}
use Rattle.std.specs.Str.{bytes_eq}
use Rattle.el_coercion.specs.Number.{number_of}
use Rattle.el_coercion.specs.Text.{text_of, made}
use Rattle.el_coercion.specs.Truth.{truth_of}
use Rattle.el_ops.specs.Operands.{answered}
use Rattle.pg_text.specs.declared.place.Place.{Place}
use Rattle.pg_value.specs.Attrs.{entry_at}
use Rattle.pg_value.specs.Datum.{Datum, null, truth, number, text}
use Rattle.pg_value.specs.declared.fault.RunFault.{RunFault}
use Rattle.page_meaning.specs.Context.{Served, Here}
use Rattle.page_meaning.specs.Expressions.{ev}
use Rattle.page_meaning.specs.Page.{Part, words, expression, Attributes, no_attributes, written, given}
use Rattle.page_meaning.specs.State.{State}
use Rattle.page_meaning.specs.Went.{Did, Went, Well, then_do, result_of}

-- the values of an action's attributes under their names
abbrev pub Values : Type 0
Values = List (List ℕ × Datum)

-- what an attribute's value becomes; a fragment isn't evaluated
pub data Coercion : Type 0 where
  as_it_is : Coercion
  to_text : Coercion
  to_text_or_null : Coercion
  to_number : Coercion
  to_number_or_null : Coercion
  to_truth : Coercion
  to_truth_or_null : Coercion
  unevaluated : Coercion

-- a value as a text
abbrev pub as_text : Datum → Result Datum RunFault
as_text d = answered text (text_of d)

-- a value as a number
abbrev pub as_number : Datum → Result Datum RunFault
as_number d = answered number (number_of d)

-- a value as a truth value
abbrev pub as_truth_value : Datum → Result Datum RunFault
as_truth_value d = answered truth (truth_of d)

-- null as it is, another value coerced
abbrev pub unless_null : (Datum → Result Datum RunFault) → Datum → Result Datum RunFault
unless_null coerce null = Ok null
unless_null coerce d = coerce d

-- a value under its coercion
abbrev pub coerced : Coercion → Datum → Result Datum RunFault
coerced as_it_is d = Ok d
coerced to_text d = as_text d
coerced to_text_or_null d = unless_null as_text d
coerced to_number d = as_number d
coerced to_number_or_null d = unless_null as_number d
coerced to_truth d = as_truth_value d
coerced to_truth_or_null d = unless_null as_truth_value d
coerced unevaluated d = Ok d

-- the coercion of the attribute of this name, of which a table says those that aren't taken as they are
abbrev pub coercion_in : List (List ℕ × Coercion) → List ℕ → Coercion
coercion_in table name = unwrap_or (lookup (bytes_eq name) table) as_it_is

-- the texts of parts joined, behind a text
abbrev pub joined_parts : Served → Here → Place → List Part → List ℕ → State → Went (List ℕ)
joined_parts served here place [] front s = Well front s
joined_parts served here place (words w ∷ rest) front s = joined_parts served here place rest (front ++ w) s
joined_parts served here place (expression e ∷ rest) front s =
    then_do (ev served here place e s) (λ d s1. then_do (result_of place (text_of d) s1) (λ t s2. joined_parts served here place rest (front ++ t) s2))

-- the value of parts: of one expression alone its value, else the text of all joined
abbrev pub parts_value : Served → Here → Place → List Part → State → Went Datum
parts_value served here place (expression e ∷ []) s = ev served here place e s
parts_value served here place parts s = then_do (joined_parts served here place parts [] s) (λ t s1. then_do (result_of place (made t) s1) (λ m s2. Well (text m) s2))

-- an attribute's value, coerced right after it was evaluated; none of a fragment
abbrev pub attribute_value : Coercion → Place → (State → Went Datum) → State → Went (List Datum)
attribute_value unevaluated place value s = Well [] s
attribute_value coercion place value s = then_do (value s) (λ d s1. then_do (result_of place (coerced coercion d) s1) (λ c s2. Well (c ∷ []) s2))

-- an attribute before the others
abbrev pub and_others : (State → Went (List Datum)) → (State → Went (List Datum)) → State → Went (List Datum)
and_others first others s = then_do (first s) (λ ds s1. then_do (others s1) (λ es s2. Well (ds ++ es) s2))

-- a name, where it is that of an evaluated attribute
abbrev pub name_of_evaluated : Coercion → List ℕ → List (List ℕ)
name_of_evaluated unevaluated name = []
name_of_evaluated coercion name = name ∷ []

-- the names of the attributes that are evaluated, in this order
abbrev pub evaluated_names : (List ℕ → Coercion) → Attributes → List (List ℕ)
evaluated_names coercion no_attributes = []
evaluated_names coercion (written name parts place rest) = name_of_evaluated (coercion name) name ++ evaluated_names coercion rest
evaluated_names coercion (given name trim nodes place rest) = name_of_evaluated (coercion name) name ++ evaluated_names coercion rest

-- names with the values that belong to them, put before others: the last pair comes first, so that
-- it is found first
abbrev pub table_onto : Values → List (List ℕ) → List Datum → Values
table_onto table (name ∷ names) (d ∷ ds) = table_onto ((name, d) ∷ table) names ds
table_onto table names ds = table

-- names with their values alone
abbrev pub table_of : List (List ℕ) → List Datum → Values
table_of names ds = table_onto [] names ds

-- the value of the attribute of this name, where it was given
abbrev pub value_at : List ℕ → Values → Option Datum
value_at name values = entry_at name values

-- the text of such a value, or the empty text where it isn't given or is no text
abbrev pub text_in : Option Datum → List ℕ
text_in (Some (text t)) = t
text_in other = []

-- the text of the attribute of this name, or the empty text
abbrev pub text_at : List ℕ → Values → List ℕ
text_at name values = text_in (value_at name values)

-- the truth value that was given, or else the default
abbrev pub truth_or : Bool → Option Datum → Bool
truth_or default (Some (truth b)) = b
truth_or default other = default

-- what is done with the values of attributes, under their names
abbrev pub with_values : (List ℕ → Coercion) → Attributes → (values : (List ℕ → Coercion) → State → Went (List Datum)) → (Values → State → Did) → State → Did
with_values coercion attributes values go s = then_do (values coercion s) (λ ds s1. go (table_of (evaluated_names coercion attributes) ds) s1)
