-- Each operation is tame, and leaves as many values as it says.
use Rattle.std.proofs.Common.{◌≡◌, ℕ, List, length, refl, Some}
use Rattle.el_coercion.specs.Text.{made}
use Rattle.el_ops.specs.Indexing.{index_of}
use Rattle.el_ops.specs.Operators.{binary_of, unary_of}
use Rattle.jstl_functions.specs.Functions.{called, measured}
use Rattle.page_code.specs.Ops.{leaves}
use Rattle.page_code.specs.declared.op.Op.{Op}
use Rattle.page_code.specs.declared.op.Op.TheVariants as op
use Rattle.pg_text.specs.Escape.{escaped}
use Rattle.pg_text.specs.declared.place.Place.{Place}
use Rattle.pg_value.specs.Datum as datum
use Rattle.pg_value.specs.Datum.{Datum, text, items_of}
use Rattle.scopes.specs.Scopes.{found}
use Rattle.page_meaning.specs.Addresses.{url_with}
use Rattle.page_meaning.specs.Attributes.{coerced}
use Rattle.page_meaning.specs.Beans.{property_of}
use Rattle.page_meaning.specs.Bodies.{put_text}
use Rattle.page_meaning.specs.Context.{is_strict}
use Rattle.page_meaning.specs.Core.{set_or_remove}
use Rattle.page_meaning.specs.Expressions.{variable_or_step, record_of}
use Rattle.page_meaning.specs.Growth.{state_of}
use Rattle.page_meaning.specs.Implicit.{implicit_value, entry_of_object}
use Rattle.page_meaning.specs.State.{State}
use Rattle.page_meaning.specs.Variables.{unassign, unassign_all, look_up}
use Rattle.page_meaning.specs.Went.{Did, Went, Well, Raised, Ended, Awaits, then_do, result_of}
use Rattle.page_table.specs.Operands.{coercion_of, header_of, keyed_scope, implicit_of}
use Rattle.page_table.specs.Operations.{leaving_none, leaving_one, value_at, text_at, pairs_in, params_in, behind_first, joined, visits, property_set, operation}
use Rattle.page_table.specs.Program.{Serving, served_of}
use Rattle.page_table.specs.Seat.{Seat, here_of, page_run_of}
use Rattle.page_table.proofs.Objects.{implicit_tame, entry_of_object_tame, variable_tame}
use Rattle.page_table.proofs.Records.{property_set_tame}
use Rattle.page_table.proofs.Tame.{Keeps, keeps_same, TameAt, keeps_at, well, result, thens}
use Rattle.page_table.proofs.Words.{visits_tame, set_tame, unassign_tame, unassign_all_tame, look_up_tame, put_text_tame}

-- a part that went well left so many values
abbrev pub Made : ℕ → Went (List Datum) → Type 0
Made n (Well ds s) = length ds ≡ n
Made n (Raised f place s) = Unit {0}
Made n (Ended leaving s) = Unit {0}
Made n (Awaits step s) = Unit {0}

-- how an operation goes
pub record Works (s : State) (n : ℕ) (w : Went (List Datum)) : Type 0 where
  pub keeps : Keeps s (state_of w)
  pub made : Made n w

none_works : (s : State) (w : Did) → TameAt s w → Works s 0 (leaving_none w)
none_works s (Well u t) h = record { keeps = keeps_at s (Well u t) h; made = refl }
none_works s (Raised f place t) h = record { keeps = keeps_at s (Raised f place t) h; made = tt }
none_works s (Ended leaving t) h = record { keeps = keeps_at s (Ended leaving t) h; made = tt }
none_works s (Awaits step t) h = record { keeps = keeps_at s (Awaits step t) h; made = tt }

one_works : (s : State) (w : Went Datum) → TameAt s w → Works s 1 (leaving_one w)
one_works s (Well d t) h = record { keeps = keeps_at s (Well d t) h; made = refl }
one_works s (Raised f place t) h = record { keeps = keeps_at s (Raised f place t) h; made = tt }
one_works s (Ended leaving t) h = record { keeps = keeps_at s (Ended leaving t) h; made = tt }
one_works s (Awaits step t) h = record { keeps = keeps_at s (Awaits step t) h; made = tt }

module _ (serving : Serving) (seat : Seat) (place : Place) where
  pub operation_works : (o : Op) (ds : List Datum) (s : State) → Works s (leaves o) (operation serving seat place o ds s)
  operation_works (op.Write t) ds s = none_works s (put_text place t s) (put_text_tame place t s)
  operation_works op.Put ds s = none_works s (put_text place (text_at 0 ds) s) (put_text_tame place (text_at 0 ds) s)
  operation_works op.PutEscaped ds s = none_works s (put_text place (escaped (text_at 0 ds)) s) (put_text_tame place (escaped (text_at 0 ds)) s)
  operation_works (op.Visit n) ds s = none_works s (visits place n s) (visits_tame place n s)
  operation_works (op.Const value) ds s = record { keeps = keeps_same s; made = refl }
  operation_works (op.Find name) ds s =
      one_works s (variable_or_step (is_strict (here_of seat)) place name (found s.scopes name) s) (variable_tame (is_strict (here_of seat)) place name (found s.scopes name) s)
  operation_works (op.Implicit object) ds s =
      one_works s (implicit_value (served_of serving) (here_of seat) place (implicit_of object) s) (implicit_tame (served_of serving) (here_of seat) place (implicit_of object) s)
  operation_works op.Index ds s =
      one_works s (result_of place (index_of (value_at 0 ds) (value_at 1 ds)) s) (result place (index_of (value_at 0 ds) (value_at 1 ds)) s)
  operation_works (op.HeaderIndex object) ds s =
      one_works s (entry_of_object (served_of serving) place (header_of object) (value_at 0 ds) s) (entry_of_object_tame (served_of serving) place (header_of object) (value_at 0 ds) s)
  operation_works (op.ScopeIndex scope) ds s =
      one_works s (entry_of_object (served_of serving) place (keyed_scope scope) (value_at 0 ds) s) (entry_of_object_tame (served_of serving) place (keyed_scope scope) (value_at 0 ds) s)
  operation_works (op.Unary o) ds s = one_works s (result_of place (unary_of o (value_at 0 ds)) s) (result place (unary_of o (value_at 0 ds)) s)
  operation_works (op.Binary o) ds s =
      one_works s (result_of place (binary_of o (value_at 0 ds) (value_at 1 ds)) s) (result place (binary_of o (value_at 0 ds) (value_at 1 ds)) s)
  operation_works (op.Coerce coercion) ds s =
      one_works s (result_of place (coerced (coercion_of coercion) (value_at 0 ds)) s) (result place (coerced (coercion_of coercion) (value_at 0 ds)) s)
  operation_works (op.MakeList n) ds s =
      one_works s (result_of place (measured (datum.list (items_of ds))) s) (result place (measured (datum.list (items_of ds))) s)
  operation_works (op.MakeMap n) ds s = one_works s (result_of place (record_of (pairs_in ds)) s) (result place (record_of (pairs_in ds)) s)
  operation_works (op.Concat n) ds s =
      one_works s (then_do (result_of place (made (joined ds)) s) (λ t s1. Well (text t) s1))
      (thens (result_of place (made (joined ds))) (λ t s1. Well (text t) s1) (result place (made (joined ds))) (λ t. well (text t)) s)
  operation_works (op.Call function) ds s = one_works s (result_of place (called function ds) s) (result place (called function ds) s)
  operation_works (op.Url n) ds s =
      let r = url_with (text_at 0 ds) (params_in (behind_first ds)) in
      one_works s (then_do (result_of place r s) (λ t s1. Well (text t) s1)) (thens (result_of place r) (λ t s1. Well (text t) s1) (result place r) (λ t. well (text t)) s)
  operation_works op.Pop ds s = record { keeps = keeps_same s; made = refl }
  operation_works (op.SetVar x) ds s = none_works s (set_or_remove place (record { name = x.name; scope = Some x.scope }) (value_at 0 ds) s) (set_tame place x.scope x.name (value_at 0 ds) s)
  operation_works (op.RemoveVar x) ds s = none_works s (unassign place x.scope x.name s) (unassign_tame place x.scope x.name s)
  operation_works (op.RemoveAll name) ds s = none_works s (unassign_all place name s) (unassign_all_tame place name s)
  operation_works (op.SetProperty name m) ds s =
      none_works s (property_set place name m (page_run_of seat).params ds s) (property_set_tame place name m (page_run_of seat).params ds s)
  operation_works (op.GetProperty name) ds s =
      one_works s (then_do (look_up place name s) (λ p s1. result_of place (property_of (text_at 0 ds) p.1) s1))
      (thens (look_up place name) (λ p s1. result_of place (property_of (text_at 0 ds) p.1) s1) (look_up_tame place name) (λ p. result place (property_of (text_at 0 ds) p.1)) s)
