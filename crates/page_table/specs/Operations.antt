-- What the instructions do that take values from the stack, leave one or none, and go on behind themselves.
use Rattle.std.specs.Prelude.{ℕ, zero, suc, List, [], ◌∷◌, ◌++◌, codes, map, Some}
use Rattle.std.specs.List.{slice_get}
use Rattle.el_coercion.specs.Text.{made}
use Rattle.el_ops.specs.Indexing.{index_of, or_null}
use Rattle.el_ops.specs.Operators.{binary_of, unary_of}
use Rattle.http_in.specs.declared.params.Param.{Param}
use Rattle.jstl_functions.specs.Functions.{called, measured}
use Rattle.page_code.specs.declared.op.Op.{Op}
use Rattle.page_code.specs.declared.op.Op.TheVariants as op
use Rattle.page_code.specs.declared.operands.PropertyMode.{PropertyMode}
use Rattle.page_code.specs.declared.operands.PropertyMode.TheVariants as mode
use Rattle.pg_text.specs.Escape.{escaped}
use Rattle.pg_text.specs.declared.place.Place.{Place}
use Rattle.pg_value.specs.Datum as datum
use Rattle.pg_value.specs.Datum.{Datum, text, items_of}
use Rattle.pg_value.specs.Value.{datum_of}
use Rattle.scopes.specs.Scopes.{found}
use Rattle.page_meaning.specs.Addresses.{url_with}
use Rattle.page_meaning.specs.Attributes.{coerced, text_in}
use Rattle.page_meaning.specs.Beans.{property_of, set_property_mean}
use Rattle.page_meaning.specs.Bodies.{put_text}
use Rattle.page_meaning.specs.Context.{Deeper, no_deeper, deeper, is_strict}
use Rattle.page_meaning.specs.Core.{set_or_remove, set_entry_mean}
use Rattle.page_meaning.specs.Expressions.{variable_or_step, record_of}
use Rattle.page_meaning.specs.Implicit.{implicit_value, entry_of_object}
use Rattle.page_meaning.specs.Page.{every, one}
use Rattle.page_meaning.specs.State.{State}
use Rattle.page_meaning.specs.Variables.{unassign, unassign_all, look_up}
use Rattle.page_meaning.specs.Went.{Did, Went, Well, then_do, result_of}
use Rattle.page_meaning.specs.Work.{visited}
use Rattle.page_table.specs.Operands.{coercion_of, header_of, keyed_scope, implicit_of}
use Rattle.page_table.specs.Program.{Serving, served_of}
use Rattle.page_table.specs.Seat.{Seat, here_of, page_run_of}

-- a part that leaves no value
abbrev pub leaving_none : Did → Went (List Datum)
leaving_none went = then_do went (λ u s. Well [] s)

-- a part that leaves its value
abbrev pub leaving_one : Went Datum → Went (List Datum)
leaving_one went = then_do went (λ d s. Well (d ∷ []) s)

-- the value at a place among those that were taken
abbrev pub value_at : ℕ → List Datum → Datum
value_at n ds = or_null (slice_get ds n)

-- the text at a place among those that were taken
abbrev pub text_at : ℕ → List Datum → List ℕ
text_at n ds = text_in (slice_get ds n)

-- values as pairs
abbrev pub pairs_in : List Datum → List (Datum × Datum)
pairs_in (k ∷ d ∷ rest) = (k, d) ∷ pairs_in rest
pairs_in other = []

-- texts as the names and values of params
abbrev pub params_in : List Datum → List Param
params_in ds = map (λ p. record { name = text_in (Some p.0); value = text_in (Some p.1) }) (pairs_in ds)

-- the first of the values, and those behind it
abbrev pub behind_first : List Datum → List Datum
behind_first [] = []
behind_first (d ∷ rest) = rest

-- texts joined
abbrev pub joined : List Datum → List ℕ
joined [] = []
joined (d ∷ rest) = text_in (Some d) ++ joined rest

-- so many visits, one after the other
abbrev pub visits : Place → ℕ → State → Did
visits place zero s = Well tt s
visits place (suc n) s = visited place (visits place n) s

-- what may run below so many levels, for the words that only ask how many are left
abbrev pub levels : ℕ → Deeper
levels zero = no_deeper
levels (suc left) = deeper left (λ nodes here s. Well tt s)

-- what `jsp:setProperty` and `c:set` of an entry do with the values that they take
abbrev pub property_set : Place → List ℕ → PropertyMode → List Param → List Datum → State → Did
property_set place name mode.Entry params ds s =
    set_entry_mean place name ((codes "property", value_at 0 ds) ∷ (codes "value", value_at 1 ds) ∷ []) (λ s1. Well tt s1) s
property_set place name mode.Parameters params ds s = set_property_mean place place name every [] params s
property_set place name (mode.Value property value_place) params ds s =
    set_property_mean place value_place name (one property property) ((codes "value", value_at 0 ds) ∷ []) params s
property_set place name (mode.Parameter property parameter) params ds s = set_property_mean place place name (one property parameter) [] params s

-- what an operation does with the values that it takes, in the order in which they were pushed
abbrev pub operation : Serving → Seat → Place → Op → List Datum → State → Went (List Datum)
operation serving seat place (op.Write t) ds s = leaving_none (put_text place t s)
operation serving seat place op.Put ds s = leaving_none (put_text place (text_at 0 ds) s)
operation serving seat place op.PutEscaped ds s = leaving_none (put_text place (escaped (text_at 0 ds)) s)
operation serving seat place (op.Visit n) ds s = leaving_none (visits place n s)
operation serving seat place (op.Const value) ds s = Well (datum_of value ∷ []) s
operation serving seat place (op.Find name) ds s = leaving_one (variable_or_step (is_strict (here_of seat)) place name (found s.scopes name) s)
operation serving seat place (op.Implicit object) ds s = leaving_one (implicit_value (served_of serving) (here_of seat) place (implicit_of object) s)
operation serving seat place op.Index ds s = leaving_one (result_of place (index_of (value_at 0 ds) (value_at 1 ds)) s)
operation serving seat place (op.HeaderIndex object) ds s = leaving_one (entry_of_object (served_of serving) place (header_of object) (value_at 0 ds) s)
operation serving seat place (op.ScopeIndex scope) ds s = leaving_one (entry_of_object (served_of serving) place (keyed_scope scope) (value_at 0 ds) s)
operation serving seat place (op.Unary o) ds s = leaving_one (result_of place (unary_of o (value_at 0 ds)) s)
operation serving seat place (op.Binary o) ds s = leaving_one (result_of place (binary_of o (value_at 0 ds) (value_at 1 ds)) s)
operation serving seat place (op.Coerce coercion) ds s = leaving_one (result_of place (coerced (coercion_of coercion) (value_at 0 ds)) s)
operation serving seat place (op.MakeList n) ds s = leaving_one (result_of place (measured (datum.list (items_of ds))) s)
operation serving seat place (op.MakeMap n) ds s = leaving_one (result_of place (record_of (pairs_in ds)) s)
operation serving seat place (op.Concat n) ds s = leaving_one (then_do (result_of place (made (joined ds)) s) (λ t s1. Well (text t) s1))
operation serving seat place (op.Call function) ds s = leaving_one (result_of place (called function ds) s)
operation serving seat place (op.Url n) ds s =
    leaving_one (then_do (result_of place (url_with (text_at 0 ds) (params_in (behind_first ds))) s) (λ t s1. Well (text t) s1))
operation serving seat place op.Pop ds s = Well [] s
operation serving seat place (op.SetVar x) ds s = leaving_none (set_or_remove place (record { name = x.name; scope = Some x.scope }) (value_at 0 ds) s)
operation serving seat place (op.RemoveVar x) ds s = leaving_none (unassign place x.scope x.name s)
operation serving seat place (op.RemoveAll name) ds s = leaving_none (unassign_all place name s)
operation serving seat place (op.SetProperty name m) ds s = leaving_none (property_set place name m (page_run_of seat).params ds s)
operation serving seat place (op.GetProperty name) ds s =
    leaving_one (then_do (look_up place name s) (λ p s1. result_of place (property_of (text_at 0 ds) p.1) s1))
