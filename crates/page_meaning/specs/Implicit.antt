-- The implicit objects.
use Rattle.std.specs.Prelude.{ℕ, List, [], ◌∷◌, codes, Option, Some, None}
use Rattle.std.specs.Map.{lookup}
use Rattle.std.specs.Option.{unwrap_or}
use Rattle.std.specs.Str.{bytes_eq, str_to_ascii_lowercase}
use Rattle.el_coercion.specs.Text.{text_of, made}
use Rattle.el_ops.specs.Indexing.{or_null}
use Rattle.jstl_functions.specs.Functions.{measured}
use Rattle.pg_text.specs.declared.place.Place.{Place}
use Rattle.pg_value.specs.Attrs.{entry_at}
use Rattle.pg_value.specs.Datum.{Datum, null, text, rec, no_entries, entry, entries_of}
use Rattle.pg_value.specs.declared.fault.RunFault.TheVariants as fault
use Rattle.scopes.specs.Scopes.{Entries, ScopeState, entries_in}
use Rattle.scopes.specs.declared.held_scope.HeldScope.{HeldScope}
use Rattle.scopes.specs.declared.held_scope.HeldScope.TheVariants as held
use Rattle.site_words.specs.Law.{Answer}
use Rattle.site_words.specs.declared.words.AppStep.TheVariants as step
use Rattle.page_meaning.specs.Context.{Served, Here, run_of}
use Rattle.page_meaning.specs.Faults.{Raise, fault_record}
use Rattle.page_meaning.specs.Request.{first_values, all_values, header_texts, cookie_records, request_record}
use Rattle.page_meaning.specs.State.{State}
use Rattle.site_words.specs.PageSteps.{told_value, tells_large}
use Rattle.page_meaning.specs.Went.{Went, Well, Raised, then_do, either, result_of}
use Rattle.page_meaning.specs.Work.{ask}

-- an object of which one entry may be taken without the others: a scope of the run, application scope, the first values of the fields,
-- and all of them
pub data Keyed : Type 0 where
  held_scope : HeldScope → Keyed
  application_scope : Keyed
  header : Keyed
  header_values : Keyed

-- an implicit object
pub data Implicit : Type 0 where
  keyed : Keyed → Implicit
  page_context : Implicit
  param : Implicit
  param_values : Implicit
  cookie : Implicit
  init_param : Implicit

-- the implicit objects by their names
abbrev pub implicit_names : List (List ℕ × Implicit)
implicit_names =
    (codes "pageContext", page_context) ∷ (codes "pageScope", keyed (held_scope held.Page)) ∷ (codes "requestScope", keyed (held_scope held.Request))
    ∷ (codes "sessionScope", keyed (held_scope held.Session)) ∷ (codes "applicationScope", keyed application_scope) ∷ (codes "param", param) ∷ (codes "paramValues", param_values)
    ∷ (codes "header", keyed header) ∷ (codes "headerValues", keyed header_values) ∷ (codes "cookie", cookie) ∷ (codes "initParam", init_param) ∷ []

-- the implicit object of this name
abbrev pub implicit_named : List ℕ → Option Implicit
implicit_named name = lookup (bytes_eq name) implicit_names

-- the entries of a scope of the run, none where there is no session
abbrev pub scope_entries : ScopeState → HeldScope → Entries
scope_entries scopes sc = unwrap_or (entries_in scopes sc) []

-- each field's name with the first of its values
abbrev pub first_header_values : Served → Entries
first_header_values served = first_values (header_texts served.request)

-- each field's name with the list of its values
abbrev pub all_header_values : Served → Entries
all_header_values served = all_values (header_texts served.request)

-- the fault that an error page sees, as a record
abbrev pub exception_datum : Option Raise → Datum
exception_datum None = null
exception_datum (Some r) = fault_record r

-- the session as the record of its id
abbrev pub session_datum : Option (List ℕ) → Datum
session_datum None = null
session_datum (Some id) = rec (entry (codes "id") (text id) no_entries)

-- the record that `pageContext` is
abbrev pub page_context_record : Served → State → Datum
page_context_record served s =
    rec (entry (codes "exception") (exception_datum served.exception) (entry (codes "request") (request_record served.request) (entry (codes "session") (session_datum s.id) no_entries)))

-- the whole of application scope, or X20
abbrev pub whole_application : Place → Answer → State → Went Datum
whole_application place answer s = either (tells_large answer) (Raised fault.ValueTooLarge place) (Well (told_value answer)) s

-- an object alone: a scope of the run is measured, application scope is one step
abbrev pub keyed_value : Served → Place → Keyed → State → Went Datum
keyed_value served place (held_scope sc) s = result_of place (measured (rec (entries_of (scope_entries s.scopes sc)))) s
keyed_value served place application_scope s = then_do (ask place step.All s) (whole_application place)
keyed_value served place header s = Well (rec (entries_of (first_header_values served))) s
keyed_value served place header_values s = Well (rec (entries_of (all_header_values served))) s

-- the value of an implicit object
abbrev pub implicit_value : Served → Here → Place → Implicit → State → Went Datum
implicit_value served here place (keyed object) s = keyed_value served place object s
implicit_value served here place page_context s = Well (page_context_record served s) s
implicit_value served here place param s = Well (rec (entries_of (first_values (run_of here).params))) s
implicit_value served here place param_values s = Well (rec (entries_of (all_values (run_of here).params))) s
implicit_value served here place cookie s = Well (rec (entries_of (cookie_records served.request))) s
implicit_value served here place init_param s = Well (rec no_entries) s

-- the entry of an object under a text: of application scope by one step, where the text isn't too large; of the fields in lower case
abbrev pub entry_under : Served → Place → Keyed → List ℕ → State → Went Datum
entry_under served place (held_scope sc) key s = Well (or_null (entry_at key (scope_entries s.scopes sc))) s
entry_under served place application_scope key s = then_do (result_of place (made key) s) (λ k s1. then_do (ask place (step.Get k) s1) (λ answer s2. Well (told_value answer) s2))
entry_under served place header key s = Well (or_null (entry_at (str_to_ascii_lowercase key) (first_header_values served))) s
entry_under served place header_values key s = Well (or_null (entry_at (str_to_ascii_lowercase key) (all_header_values served))) s

-- the entry of an object under a value; null under null, and nothing is asked
abbrev pub entry_of_object : Served → Place → Keyed → Datum → State → Went Datum
entry_of_object served place object null s = Well null s
entry_of_object served place object key s = then_do (result_of place (text_of key) s) (λ k s1. entry_under served place object k s1)
