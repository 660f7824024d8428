-- Visits, steps, variables, texts, rounds, beans and all operations go on.
use Rattle.std.proofs.Common.{ℕ, zero, suc, ◌+◌, Bool, true, false, List, [], ◌∷◌, Option, Some, None, codes, nat_lt}
use Rattle.std.specs.Prelude.{is_some, if◌then◌else◌}
use Rattle.el_coercion.specs.Text.{text_of, made}
use Rattle.el_ops.specs.Indexing.{index_of}
use Rattle.el_ops.specs.Operators.{binary_of, unary_of}
use Rattle.http_in.specs.declared.params.Param.{Param}
use Rattle.jstl_functions.specs.Functions.{called, measured}
use Rattle.out_buffer.specs.Writer.{put}
use Rattle.page_code.specs.declared.op.Op.{Op}
use Rattle.page_code.specs.declared.op.Op.TheVariants as op
use Rattle.page_code.specs.declared.operands.PropertyMode.{PropertyMode}
use Rattle.page_code.specs.declared.operands.PropertyMode.TheVariants as mode
use Rattle.page_meaning.specs.Addresses.{url_with}
use Rattle.page_meaning.specs.Attributes.{Values, coerced, value_at, text_in}
use Rattle.page_meaning.specs.Beans.{property_of, like, filled, all_by_parameters, one_set, one_by, properties_set, written_back, found_set, set_property_mean}
use Rattle.page_meaning.specs.Bodies.{put_text}
use Rattle.page_meaning.specs.Context.{Served, Here, is_strict}
use Rattle.page_meaning.specs.Core.{set_or_remove, property_replaced}
use Rattle.page_meaning.specs.Expressions.{found_nowhere, variable_or_step, record_of}
use Rattle.page_meaning.specs.Implicit.{Keyed, held_scope, application_scope, header, header_values, Implicit, keyed, page_context, param, param_values, cookie, init_param, scope_entries, whole_application, keyed_value, implicit_value, entry_under, entry_of_object}
use Rattle.page_meaning.specs.Loops.{set_status, round_begun, with_named}
use Rattle.page_meaning.specs.Page.{Property, every, one}
use Rattle.page_meaning.specs.Request.{first_values}
use Rattle.page_meaning.specs.Rounds.{Round, status_record}
use Rattle.page_meaning.specs.State.{State, in_scopes, in_writer}
use Rattle.page_meaning.specs.Variables.{set_held, set_application, set_in, assign, remove_in, unassign, unassign_all, without_inner, inner_found, look_up_else, look_up, with_page_variable}
use Rattle.page_meaning.specs.Went.{Went, Did, Well, Raised, then_do, result_of}
use Rattle.page_meaning.specs.Work.{visit_limit, visit, is_spent, answer_from, ask}
use Rattle.page_table.specs.Act.{bean_made}
use Rattle.page_table.specs.Operands.{coercion_of, header_of, keyed_scope, implicit_of}
use Rattle.page_table.specs.Operations as operations
use Rattle.page_table.specs.Operations.{leaving_none, leaving_one, text_at, pairs_in, params_in, behind_first, joined, visits, property_set, operation}
use Rattle.page_table.specs.Program.{Serving, served_of}
use Rattle.page_table.specs.Seat.{Seat, here_of, page_run_of}
use Rattle.pg_text.specs.Escape.{escaped}
use Rattle.pg_text.specs.declared.place.Place.{Place}
use Rattle.pg_value.specs.Attrs.{entry_at, with_entry}
use Rattle.pg_value.specs.Datum as datum
use Rattle.pg_value.specs.Datum.{Datum, null, truth, number, text, rec, entry_list, entries_of, items_of}
use Rattle.pg_value.specs.Limits.{is_over}
use Rattle.pg_value.specs.Value.{value_of}
use Rattle.pg_value.specs.declared.fault.RunFault.TheVariants as fault
use Rattle.pg_value.specs.declared.scope.Scope.{Scope}
use Rattle.pg_value.specs.declared.scope.Scope.TheVariants as scope
use Rattle.scopes.specs.HeldScope as held_scopes
use Rattle.scopes.specs.Scopes.{Entries, found, found_in, set_answer, with_variable, without_variable}
use Rattle.scopes.specs.declared.held_scope.HeldScope.{HeldScope}
use Rattle.site_words.specs.Law.{Answer}
use Rattle.site_words.specs.PageSteps.{told_value, tells_created, tells_large}
use Rattle.site_words.specs.declared.words.AppStep.{AppStep}
use Rattle.site_words.specs.declared.words.AppStep.TheVariants as step
use Rattle.page_targets.proofs.Parts.{IsOn, GoesOn, well, raised, result, changed, then_on, thens, either_on, eithers}

-- visits
pub visit_on : (place : Place) → GoesOn (visit place)
visit_on place s = go (nat_lt s.visits visit_limit)
  where
    go : (b : Bool) → IsOn (let w : Did = if b then Well tt (record s { visits = s.visits + 1 }) else Raised fault.TooMuchWork place s in w)
    go true = record { on = tt }
    go false = record { on = tt }

visits_on : (place : Place) (n : ℕ) → GoesOn (visits place n)
visits_on place zero = well tt
visits_on place (suc n) = thens (visit place) (λ u s1. visits place n s1) (visit_on place) (λ u. visits_on place n)

-- steps
answer_on : (x : AppStep) (s : State) (answers : List Answer) → IsOn (answer_from x answers s)
answer_on x s [] = record { on = tt }
answer_on x s (answer ∷ rest) = record { on = tt }

pub ask_on : (place : Place) (x : AppStep) → GoesOn (ask place x)
ask_on place x s = either_on (is_spent s) (Raised fault.AppTooMuch place) (answer_from x s.answers) s (record { on = tt }) (answer_on x s s.answers)

-- variables
set_held_on : (place : Place) (sc : HeldScope) (name : List ℕ) (d : Datum) → GoesOn (set_held place sc name d)
set_held_on place sc name d s =
    let r = set_answer s.scopes sc name d in
    then_on (result_of place r s) (λ u s1. Well tt (in_scopes (with_variable s1.scopes sc name d) s1)) (result place r s) (λ u. changed tt (λ s1. in_scopes (with_variable s1.scopes sc name d) s1))

set_application_on : (place : Place) (name : List ℕ) (d : Datum) → GoesOn (set_application place name d)
set_application_on place name d =
    eithers (is_over d) (Raised fault.ValueTooLarge place) (λ s1. then_do (ask place (step.Set name (value_of d)) s1) (λ answer s2. Well tt s2))
    (raised fault.ValueTooLarge place) (thens (ask place (step.Set name (value_of d))) (λ answer s2. Well tt s2) (ask_on place (step.Set name (value_of d))) (λ answer. well tt))

set_in_on : (place : Place) (held : Option HeldScope) (name : List ℕ) (d : Datum) → GoesOn (set_in place held name d)
set_in_on place (Some sc) name d = set_held_on place sc name d
set_in_on place None name d = set_application_on place name d

assign_on : (place : Place) (sc : Scope) (name : List ℕ) (d : Datum) → GoesOn (assign place sc name d)
assign_on place sc name d = set_in_on place (held_scopes.held_scope sc) name d

remove_in_on : (place : Place) (held : Option HeldScope) (name : List ℕ) → GoesOn (remove_in place held name)
remove_in_on place (Some sc) name = changed tt (λ s. in_scopes (without_variable s.scopes sc name) s)
remove_in_on place None name = thens (ask place (step.Remove name)) (λ answer s1. Well tt s1) (ask_on place (step.Remove name)) (λ answer. well tt)

unassign_on : (place : Place) (sc : Scope) (name : List ℕ) → GoesOn (unassign place sc name)
unassign_on place sc name = remove_in_on place (held_scopes.held_scope sc) name

unassign_all_on : (place : Place) (name : List ℕ) → GoesOn (unassign_all place name)
unassign_all_on place name s = unassign_on place scope.Application name (in_scopes (without_inner name s.scopes) s)

set_on : (place : Place) (sc : Scope) (name : List ℕ) (d : Datum) → GoesOn (set_or_remove place (record { name = name; scope = Some sc }) d)
set_on place sc name null = unassign_on place sc name
set_on place sc name (truth b) = assign_on place sc name (truth b)
set_on place sc name (number n) = assign_on place sc name (number n)
set_on place sc name (text t) = assign_on place sc name (text t)
set_on place sc name (datum.list is) = assign_on place sc name (datum.list is)
set_on place sc name (rec es) = assign_on place sc name (rec es)

look_up_else_on : (place : Place) (name : List ℕ) (o : Option (Scope × Datum)) → GoesOn (look_up_else place name o)
look_up_else_on place name (Some p) = well p
look_up_else_on place name None =
    thens (ask place (step.Get name)) (λ answer s1. Well (scope.Application, told_value answer) s1) (ask_on place (step.Get name)) (λ answer. well (scope.Application, told_value answer))

look_up_on : (place : Place) (name : List ℕ) → GoesOn (look_up place name)
look_up_on place name s = look_up_else_on place name (inner_found s.scopes name) s

-- texts
pub put_text_on : (place : Place) (bytes : List ℕ) → GoesOn (put_text place bytes)
put_text_on place bytes s = then_on (result_of place (put bytes s.writer) s) (λ w s1. Well tt (in_writer w s1)) (result place (put bytes s.writer) s) (λ w. changed tt (in_writer w))

-- rounds
set_status_on : (place : Place) (name : Option (List ℕ)) (d : Datum) → GoesOn (set_status place name d)
set_status_on place None d = well tt
set_status_on place (Some name) d =
    thens (result_of place (measured d)) (λ m s1. Well tt (with_page_variable name m s1)) (result place (measured d)) (λ m. changed tt (with_page_variable name m))

pub round_on : (place : Place) (variable status : Option (List ℕ)) (vs : Values) (r : Round) → GoesOn (round_begun place variable status vs r)
round_on place variable status vs r =
    thens (visit place) (λ u s1. then_do (result_of place r.item s1) (λ item s2. set_status place status (status_record vs r item) (with_named variable item s2))) (visit_on place)
    (λ u. thens (result_of place r.item) (λ item s2. set_status place status (status_record vs r item) (with_named variable item s2)) (result place r.item)
    (λ item s. set_status_on place status (status_record vs r item) (with_named variable item s)))

-- implicit objects, and variables that may be nowhere
keyed_on : (served : Served) (place : Place) (object : Keyed) → GoesOn (keyed_value served place object)
keyed_on served place (held_scope sc) s = result place (measured (rec (datum.entries_of (scope_entries s.scopes sc)))) s
keyed_on served place application_scope s =
    thens (ask place step.All) (whole_application place) (ask_on place step.All)
    (λ answer. eithers (tells_large answer) (Raised fault.ValueTooLarge place) (Well (told_value answer)) (raised fault.ValueTooLarge place) (well (told_value answer))) s
keyed_on served place header s = record { on = tt }
keyed_on served place header_values s = record { on = tt }

implicit_on : (served : Served) (here : Here) (place : Place) (object : Implicit) → GoesOn (implicit_value served here place object)
implicit_on served here place (keyed object) s = keyed_on served place object s
implicit_on served here place page_context s = record { on = tt }
implicit_on served here place param s = record { on = tt }
implicit_on served here place param_values s = record { on = tt }
implicit_on served here place cookie s = record { on = tt }
implicit_on served here place init_param s = record { on = tt }

entry_under_on : (served : Served) (place : Place) (object : Keyed) (key : List ℕ) → GoesOn (entry_under served place object key)
entry_under_on served place (held_scope sc) key s = record { on = tt }
entry_under_on served place application_scope key s =
    thens (result_of place (made key)) (λ k s1. then_do (ask place (step.Get k) s1) (λ answer s2. Well (told_value answer) s2)) (result place (made key))
    (λ k. thens (ask place (step.Get k)) (λ answer s2. Well (told_value answer) s2) (ask_on place (step.Get k)) (λ answer. well (told_value answer))) s
entry_under_on served place header key s = record { on = tt }
entry_under_on served place header_values key s = record { on = tt }

entry_by_text : (served : Served) (place : Place) (object : Keyed) (d : Datum) → GoesOn (λ s. then_do (result_of place (text_of d) s) (λ k s1. entry_under served place object k s1))
entry_by_text served place object d =
    thens (result_of place (text_of d)) (λ k s1. entry_under served place object k s1) (result place (text_of d)) (λ k. entry_under_on served place object k)

entry_of_object_on : (served : Served) (place : Place) (object : Keyed) (d : Datum) → GoesOn (entry_of_object served place object d)
entry_of_object_on served place object null = well null
entry_of_object_on served place object (truth b) = entry_by_text served place object (truth b)
entry_of_object_on served place object (number n) = entry_by_text served place object (number n)
entry_of_object_on served place object (text t) = entry_by_text served place object (text t)
entry_of_object_on served place object (datum.list is) = entry_by_text served place object (datum.list is)
entry_of_object_on served place object (rec es) = entry_by_text served place object (rec es)

found_nowhere_on : (strict : Bool) (place : Place) (d : Datum) → GoesOn (found_nowhere strict place d)
found_nowhere_on true place null = raised fault.NotFound place
found_nowhere_on true place (truth b) = well (truth b)
found_nowhere_on true place (number n) = well (number n)
found_nowhere_on true place (text t) = well (text t)
found_nowhere_on true place (datum.list is) = well (datum.list is)
found_nowhere_on true place (rec es) = well (rec es)
found_nowhere_on false place d = well d

variable_on : (strict : Bool) (place : Place) (n : List ℕ) (o : Option Datum) → GoesOn (variable_or_step strict place n o)
variable_on strict place n (Some d) = well d
variable_on strict place n None =
    thens (ask place (step.Get n)) (λ answer s1. found_nowhere strict place (told_value answer) s1) (ask_on place (step.Get n)) (λ answer. found_nowhere_on strict place (told_value answer))

-- entries of records, and beans
replaced_on : (place : Place) (target property : List ℕ) (d : Datum)
    → GoesOn (λ s. then_do (look_up place target s) (λ p s2. then_do (result_of place (property_replaced property d p.1) s2) (λ r s3. assign place p.0 target r s3)))
replaced_on place target property d =
    thens (look_up place target) (λ p s2. then_do (result_of place (property_replaced property d p.1) s2) (λ r s3. assign place p.0 target r s3)) (look_up_on place target)
    (λ p. thens (result_of place (property_replaced property d p.1)) (λ r s3. assign place p.0 target r s3) (result place (property_replaced property d p.1)) (λ r. assign_on place p.0 target r))

one_set_on : (place : Place) (entries : Entries) (name : List ℕ) (old new : Datum) → GoesOn (one_set place entries name old new)
one_set_on place entries name old new =
    thens (result_of place (coerced (like old) new)) (λ d s1. Well (Some (with_entry entries name d)) s1) (result place (coerced (like old) new)) (λ d. well (Some (with_entry entries name d)))

one_by_on : (place value_place : Place) (entries : Entries) (name : List ℕ) (old : Datum) (value parameter : Option Datum) → GoesOn (one_by place value_place entries name old value parameter)
one_by_on place value_place entries name old (Some d) parameter = one_set_on value_place entries name old d
one_by_on place value_place entries name old None (Some d) = one_set_on place entries name old d
one_by_on place value_place entries name old None None = well None

properties_on : (place value_place : Place) (property : Property) (vs : Values) (params entries : Entries) → GoesOn (properties_set place value_place property vs params entries)
properties_on place value_place every vs params entries =
    thens (result_of place (all_by_parameters params entries entries)) (λ es s1. Well (Some es) s1) (result place (all_by_parameters params entries entries)) (λ es. well (Some es))
properties_on place value_place (one name parameter) vs params entries =
    thens (result_of place (property_of name (rec (entries_of entries))))
    (λ old s1. one_by place value_place entries name old (value_at (codes "value") vs) (filled (entry_at parameter params)) s1) (result place (property_of name (rec (entries_of entries))))
    (λ old. one_by_on place value_place entries name old (value_at (codes "value") vs) (filled (entry_at parameter params)))

written_back_on : (place : Place) (sc : Scope) (name : List ℕ) (o : Option Entries) → GoesOn (written_back place sc name o)
written_back_on place sc name None = well tt
written_back_on place sc name (Some es) =
    thens (result_of place (measured (rec (entries_of es)))) (λ r s1. assign place sc name r s1) (result place (measured (rec (entries_of es)))) (λ r. assign_on place sc name r)

found_set_on : (place value_place : Place) (name : List ℕ) (property : Property) (vs : Values) (params : List Param) (sc : Scope) (d : Datum)
    → GoesOn (found_set place value_place name property vs params sc d)
found_set_on place value_place name property vs params sc (rec es) =
    thens (properties_set place value_place property vs (first_values params) (entry_list es)) (λ changed s1. written_back place sc name changed s1)
    (properties_on place value_place property vs (first_values params) (entry_list es)) (λ o. written_back_on place sc name o)
found_set_on place value_place name property vs params sc null = raised fault.NotARecord place
found_set_on place value_place name property vs params sc (truth b) = raised fault.NotARecord place
found_set_on place value_place name property vs params sc (number n) = raised fault.NotARecord place
found_set_on place value_place name property vs params sc (text t) = raised fault.NotARecord place
found_set_on place value_place name property vs params sc (datum.list is) = raised fault.NotARecord place

set_property_on : (place value_place : Place) (name : List ℕ) (property : Property) (vs : Values) (params : List Param) → GoesOn (set_property_mean place value_place name property vs params)
set_property_on place value_place name property vs params =
    thens (look_up place name) (λ p s1. found_set place value_place name property vs params p.0 p.1 s1) (look_up_on place name) (λ p. found_set_on place value_place name property vs params p.0 p.1)

property_set_on : (place : Place) (name : List ℕ) (m : PropertyMode) (params : List Param) (ds : List Datum) → GoesOn (property_set place name m params ds)
property_set_on place name mode.Entry params ds = replaced_on place name (text_in (Some (operations.value_at 0 ds))) (operations.value_at 1 ds)
property_set_on place name mode.Parameters params ds = set_property_on place place name every [] params
property_set_on place name (mode.Value property value_place) params ds =
    set_property_on place value_place name (one property property) ((codes "value", operations.value_at 0 ds) ∷ []) params
property_set_on place name (mode.Parameter property parameter) params ds = set_property_on place place name (one property parameter) [] params

pub bean_on : (place : Place) (held : Option HeldScope) (name : List ℕ) (bean : Datum) → GoesOn (bean_made place held name bean)
bean_on place (Some sc) name bean s =
    eithers (is_some (found_in s.scopes sc name)) (Well false) (λ s1. then_do (set_held place sc name bean s1) (λ u s2. Well true s2)) (well false)
    (thens (set_held place sc name bean) (λ u s2. Well true s2) (set_held_on place sc name bean) (λ u. well true)) s
bean_on place None name bean s =
    thens (ask place (step.Ensure name (value_of bean))) (λ answer s1. Well (tells_created answer) s1) (ask_on place (step.Ensure name (value_of bean))) (λ answer. well (tells_created answer)) s

-- operations
none_on : (w : Did) → IsOn w → IsOn (leaving_none w)
none_on w h = then_on w (λ u s. Well [] s) h (λ u. well [])

one_on : (w : Went Datum) → IsOn w → IsOn (leaving_one w)
one_on w h = then_on w (λ d s. Well (d ∷ []) s) h (λ d. well (d ∷ []))

module _ (serving : Serving) (seat : Seat) (place : Place) where
  pub operation_on : (o : Op) (ds : List Datum) → GoesOn (operation serving seat place o ds)
  operation_on (op.Write t) ds s = none_on (put_text place t s) (put_text_on place t s)
  operation_on op.Put ds s = none_on (put_text place (text_at 0 ds) s) (put_text_on place (text_at 0 ds) s)
  operation_on op.PutEscaped ds s = none_on (put_text place (escaped (text_at 0 ds)) s) (put_text_on place (escaped (text_at 0 ds)) s)
  operation_on (op.Visit n) ds s = none_on (visits place n s) (visits_on place n s)
  operation_on (op.Const value) ds s = record { on = tt }
  operation_on (op.Find name) ds s =
      one_on (variable_or_step (is_strict (here_of seat)) place name (found s.scopes name) s) (variable_on (is_strict (here_of seat)) place name (found s.scopes name) s)
  operation_on (op.Implicit object) ds s =
      one_on (implicit_value (served_of serving) (here_of seat) place (implicit_of object) s) (implicit_on (served_of serving) (here_of seat) place (implicit_of object) s)
  operation_on op.Index ds s =
      one_on (result_of place (index_of (operations.value_at 0 ds) (operations.value_at 1 ds)) s) (result place (index_of (operations.value_at 0 ds) (operations.value_at 1 ds)) s)
  operation_on (op.HeaderIndex object) ds s =
      one_on (entry_of_object (served_of serving) place (header_of object) (operations.value_at 0 ds) s) (entry_of_object_on (served_of serving) place (header_of object) (operations.value_at 0 ds) s)
  operation_on (op.ScopeIndex scope) ds s =
      one_on (entry_of_object (served_of serving) place (keyed_scope scope) (operations.value_at 0 ds) s) (entry_of_object_on (served_of serving) place (keyed_scope scope) (operations.value_at 0 ds) s)
  operation_on (op.Unary o) ds s = one_on (result_of place (unary_of o (operations.value_at 0 ds)) s) (result place (unary_of o (operations.value_at 0 ds)) s)
  operation_on (op.Binary o) ds s =
      one_on (result_of place (binary_of o (operations.value_at 0 ds) (operations.value_at 1 ds)) s) (result place (binary_of o (operations.value_at 0 ds) (operations.value_at 1 ds)) s)
  operation_on (op.Coerce coercion) ds s =
      one_on (result_of place (coerced (coercion_of coercion) (operations.value_at 0 ds)) s) (result place (coerced (coercion_of coercion) (operations.value_at 0 ds)) s)
  operation_on (op.MakeList n) ds s = one_on (result_of place (measured (datum.list (items_of ds))) s) (result place (measured (datum.list (items_of ds))) s)
  operation_on (op.MakeMap n) ds s = one_on (result_of place (record_of (pairs_in ds)) s) (result place (record_of (pairs_in ds)) s)
  operation_on (op.Concat n) ds s =
      one_on (then_do (result_of place (made (joined ds)) s) (λ t s1. Well (text t) s1))
      (thens (result_of place (made (joined ds))) (λ t s1. Well (text t) s1) (result place (made (joined ds))) (λ t. well (text t)) s)
  operation_on (op.Call function) ds s = one_on (result_of place (called function ds) s) (result place (called function ds) s)
  operation_on (op.Url n) ds s =
      let r = url_with (text_at 0 ds) (params_in (behind_first ds)) in
      one_on (then_do (result_of place r s) (λ t s1. Well (text t) s1)) (thens (result_of place r) (λ t s1. Well (text t) s1) (result place r) (λ t. well (text t)) s)
  operation_on op.Pop ds s = record { on = tt }
  operation_on (op.SetVar x) ds s =
      none_on (set_or_remove place (record { name = x.name; scope = Some x.scope }) (operations.value_at 0 ds) s) (set_on place x.scope x.name (operations.value_at 0 ds) s)
  operation_on (op.RemoveVar x) ds s = none_on (unassign place x.scope x.name s) (unassign_on place x.scope x.name s)
  operation_on (op.RemoveAll name) ds s = none_on (unassign_all place name s) (unassign_all_on place name s)
  operation_on (op.SetProperty name m) ds s = none_on (property_set place name m (page_run_of seat).params ds s) (property_set_on place name m (page_run_of seat).params ds s)
  operation_on (op.GetProperty name) ds s =
      one_on (then_do (look_up place name s) (λ p s1. result_of place (property_of (text_at 0 ds) p.1) s1))
      (thens (look_up place name) (λ p s1. result_of place (property_of (text_at 0 ds) p.1) s1) (look_up_on place name) (λ p. result place (property_of (text_at 0 ds) p.1)) s)
