-- The implicit objects by what the request and the scopes tell.
use Rattle.std.proofs.Common.{◌≡◌, ◌≢◌, ℕ, Bool, true, false, List, [], Option, Some, None, Result, Ok, Err, refl, sym, ap, ◌∙◌, IfOk}
use Rattle.std.specs.Option.{option_and_then, unwrap_or}
use Rattle.std.specs.Prelude.{if◌then◌else◌}
use Rattle.std.proofs.lemmas.Bool.{false≢true}
use Rattle.el_coercion.specs.Text.{made, text_of}
use Rattle.el_ops.specs.Indexing.{or_null}
use Rattle.el_ops.specs.Operands.{answered}
use Rattle.http_in.specs.declared.params.Param.{Param}
use Rattle.http_in.specs.declared.request.Request.{Request}
use Rattle.jstl_functions.specs.Functions.{measured}
use Rattle.page_code.specs.declared.operands.HeaderObject.TheVariants as header
use Rattle.page_code.specs.declared.operands.Implicit.{Implicit}
use Rattle.page_code.specs.declared.operands.Implicit.TheVariants as object
use Rattle.run_world.specs.Origin.{Origin}
use Rattle.run_world.specs.Part.{given, Doing}
use Rattle.run_parts.specs.Answers.{is_null}
use Rattle.run_parts.specs.Objects.{page_context_of, request_value, whole_answer}
use Rattle.page_meaning.proofs.Growing.{same}
use Rattle.run_world.proofs.Adds.{Adds, ask_adds, result, thens, well}
use Rattle.run_world.proofs.Parts.{as_doing, fail_doing, result_doing, then_doing, well_doing}
use Rattle.run_parts.proofs.PropertySets.{answered_doing, answered_failed}
use Rattle.page_meaning.specs.Context.{Here, run_of}
use Rattle.page_meaning.specs.Faults.{Raise}
use Rattle.page_meaning.specs.Implicit as implicit
use Rattle.page_meaning.specs.Implicit.{Keyed, entry_of_object, entry_under, implicit_value, keyed_value, scope_entries, whole_application}
use Rattle.page_meaning.specs.State.{State}
use Rattle.page_meaning.specs.Went.{Went, Well, Raised, then_do, either, result_of}
use Rattle.page_meaning.specs.Work.{ask}
use Rattle.page_table.specs.Operands.{implicit_of, keyed_held, keyed_scope}
use Rattle.page_table.specs.Program.{Serving, served_of}
use Rattle.pg_text.specs.Failure.{AnswersAs}
use Rattle.pg_text.specs.declared.failure.Failure.{Failure}
use Rattle.pg_text.specs.declared.failure.Failure.TheVariants as failure
use Rattle.pg_text.specs.declared.place.Place.{Place}
use Rattle.pg_value.specs.Attrs.{entry_at}
use Rattle.pg_value.specs.Datum.{Datum, null, truth, number, text, list, rec, entries_of}
use Rattle.pg_value.specs.Limits.{is_over}
use Rattle.pg_value.specs.Value.{datum_of}
use Rattle.pg_value.specs.declared.fault.RunFault.{RunFault}
use Rattle.pg_value.specs.declared.fault.RunFault.TheVariants as fault
use Rattle.pg_value.specs.declared.scope.Scope.{Scope}
use Rattle.pg_value.specs.declared.value.Value.{Value}
use Rattle.pg_value.specs.declared.value.Value.TheVariants as variant
use Rattle.scopes.specs.HeldScope.{held_scope}
use Rattle.scopes.specs.Scopes.{ScopeState, found_in, record_answer}
use Rattle.scopes.specs.declared.held_scope.HeldScope.{HeldScope}
use Rattle.scopes.specs.declared.held_scope.HeldScope.TheVariants as held
use Rattle.site_words.specs.Law.{Answer, told}
use Rattle.site_words.specs.PageSteps.{told_value, value_in, tells_large}
use Rattle.site_words.specs.declared.words.AppReply.{AppReply}
use Rattle.site_words.specs.declared.words.AppReply.TheVariants as reply
use Rattle.site_words.specs.declared.words.AppStep.TheVariants as step

-- the whole of application scope, as a table's answer
whole_is : (place : Place) (r : AppReply) (s : State) → whole_application place (told r) s ≡ result_of place (whole_answer r) s
whole_is place (reply.Value value) s = refl
whole_is place reply.Done s = refl
whole_is place reply.Created s = refl
whole_is place (reply.Large weight) s = refl

pub whole_other : (r : AppReply) → ((weight : ℕ) → r ≡ reply.Large weight → ⊥) → whole_answer r ≡ Ok (value_in r)
whole_other (reply.Value value) other = refl
whole_other reply.Done other = refl
whole_other reply.Created other = refl
whole_other (reply.Large weight) other = absurd (other weight refl)

pub whole_adds : (place : Place) (a : Answer) → Adds (whole_application place a)
whole_adds place a s = go (tells_large a)
  where
    go : (b : Bool) → Rattle.page_meaning.specs.Growth.Grows s (Rattle.page_meaning.specs.Growth.state_of (either b (Raised fault.ValueTooLarge place) (Well (told_value a)) s))
    go true = same s
    go false = same s

-- what objects add
keyed_adds : (served : Rattle.page_meaning.specs.Context.Served) (place : Place) (k : Keyed) → Adds (keyed_value served place k)
keyed_adds served place (implicit.held_scope sc) s = result place (measured (rec (entries_of (scope_entries s.scopes sc)))) s
keyed_adds served place implicit.application_scope s = thens (ask place step.All) (whole_application place) (ask_adds place step.All) (whole_adds place) s
keyed_adds served place implicit.header s = same s
keyed_adds served place implicit.header_values s = same s

object_adds : (served : Rattle.page_meaning.specs.Context.Served) (here : Here) (place : Place) (o : implicit.Implicit) → Adds (implicit_value served here place o)
object_adds served here place (implicit.keyed k) s = keyed_adds served place k s
object_adds served here place implicit.page_context s = same s
object_adds served here place implicit.param s = same s
object_adds served here place implicit.param_values s = same s
object_adds served here place implicit.cookie s = same s
object_adds served here place implicit.init_param s = same s

pub implicit_adds : (serving : Serving) (here : Here) (place : Place) (o : Implicit) → Adds (implicit_value (served_of serving) here place (implicit_of o))
implicit_adds serving here place o = object_adds (served_of serving) here place (implicit_of o)

under_adds : (served : Rattle.page_meaning.specs.Context.Served) (place : Place) (k : Keyed) (key : List ℕ) → Adds (entry_under served place k key)
under_adds served place (implicit.held_scope sc) key s = same s
under_adds served place implicit.application_scope key s =
    thens (result_of place (made key)) (λ k s1. then_do (ask place (step.Get k) s1) (λ answer s2. Well (told_value answer) s2)) (result place (made key))
    (λ k. thens (ask place (step.Get k)) (λ answer s2. Well (told_value answer) s2) (ask_adds place (step.Get k)) (λ answer. well (told_value answer))) s
under_adds served place implicit.header key s = same s
under_adds served place implicit.header_values key s = same s

through_adds : (served : Rattle.page_meaning.specs.Context.Served) (place : Place) (k : Keyed) (d : Datum) → Adds (λ s. then_do (result_of place (text_of d) s) (λ key s1. entry_under served place k key s1))
through_adds served place k d = thens (result_of place (text_of d)) (λ key s1. entry_under served place k key s1) (result place (text_of d)) (λ key. under_adds served place k key)

pub entry_adds : (served : Rattle.page_meaning.specs.Context.Served) (place : Place) (k : Keyed) (d : Datum) → Adds (entry_of_object served place k d)
entry_adds served place k null s = same s
entry_adds served place k (truth b) s = through_adds served place k (truth b) s
entry_adds served place k (number n) s = through_adds served place k (number n) s
entry_adds served place k (text t) s = through_adds served place k (text t) s
entry_adds served place k (list is) s = through_adds served place k (list is) s
entry_adds served place k (rec es) s = through_adds served place k (rec es) s

-- an object that no scope is
module _ (serving : Serving) (here : Here) (place : Place) (s : State) (id : Option (List ℕ)) (e : s.id ≡ id) where
  pub request_is : (o : Implicit) → ((sc : Scope) → o ≡ object.Scope sc → ⊥)
      → implicit_value (served_of serving) here place (implicit_of o) s ≡ Well (request_value serving.request serving.exception id (run_of here).params o) s
  request_is object.PageContext other = ap (λ i. Well (page_context_of serving.request serving.exception i) s) e
  request_is (object.Scope sc) other = absurd (other sc refl)
  request_is object.Param other = refl
  request_is object.ParamValues other = refl
  request_is (object.Header header.Header) other = refl
  request_is (object.Header header.HeaderValues) other = refl
  request_is object.Cookie other = refl
  request_is object.InitParam other = refl

-- an entry of an object under a value that isn't null
entry_is : (served : Rattle.page_meaning.specs.Context.Served) (place : Place) (k : Keyed) (d : Datum) (s : State) → d ≢ null
    → entry_of_object served place k d s ≡ then_do (result_of place (text_of d) s) (λ key s1. entry_under served place k key s1)
entry_is served place k null s some = absurd (some refl)
entry_is served place k (truth b) s some = refl
entry_is served place k (number n) s some = refl
entry_is served place k (text t) s some = refl
entry_is served place k (list is) s some = refl
entry_is served place k (rec es) s some = refl

-- what stands under a name in a scope of the run
pub held_is : (scopes : ScopeState) (sc : HeldScope) (name : List ℕ) → or_null (found_in scopes sc name) ≡ or_null (entry_at name (scope_entries scopes sc))
held_is scopes held.Page name = refl
held_is scopes held.Request name = refl
held_is scopes held.Session name = go scopes.session
  where
    go : (session : Option Rattle.scopes.specs.Scopes.Entries) → or_null (option_and_then (entry_at name) session) ≡ or_null (entry_at name (unwrap_or session []))
    go (Some entries) = refl
    go None = refl

-- a copy of it
pub copied_entry : {E : Type 0} (scopes : ScopeState) (sc : HeldScope) (name : List ℕ) (v : Value) (result : Result Value E) → Some (datum_of v) ≡ found_in scopes sc name → IfOk result (λ x. x ≡ v)
    → IfOk result (λ x. datum_of x ≡ or_null (entry_at name (scope_entries scopes sc)))
copied_entry scopes sc name v (Ok x) e is = ap datum_of is ∙ ap or_null e ∙ held_is scopes sc name
copied_entry scopes sc name v (Err f) e is = tt

-- a scope of the run, measured
record_measured : (es : Rattle.scopes.specs.Scopes.Entries) → measured (rec (entries_of es)) ≡ answered datum_of (record_answer es)
record_measured es = go (is_over (rec (entries_of es)))
  where
    go : (b : Bool) → (if b then Err fault.ValueTooLarge else Ok (rec (entries_of es))) ≡ answered datum_of (if b then Err fault.ValueTooLarge else Ok (variant.Rec es))
    go true = refl
    go false = refl

pub scope_answers : (es : Rattle.scopes.specs.Scopes.Entries) (result : Result Value (Failure RunFault)) → AnswersAs (λ (v : Value). v) (record_answer es) result → AnswersAs datum_of (measured (rec (entries_of es))) result
scope_answers es (Ok v) e = record_measured es ∙ ap (answered datum_of) e
scope_answers es (Err (failure.Fault f)) e = record_measured es ∙ ap (answered datum_of) e
scope_answers es (Err failure.NoMemory) e = tt

-- a value that isn't null
pub datum_some : (v : Value) → v ≢ variant.Null → datum_of v ≢ null
datum_some variant.Null some e = absurd (some refl)
datum_some (variant.Bool b) some e = false≢true (ap is_null e)
datum_some (variant.Int n) some e = false≢true (ap is_null e)
datum_some (variant.Text s) some e = false≢true (ap is_null e)
datum_some (variant.List ds) some e = false≢true (ap is_null e)
datum_some (variant.Rec es) some e = false≢true (ap is_null e)

-- what a name gives in application scope
abbrev pub Entering : List ℕ → Place → State → Went Datum
Entering name place s = then_do (result_of place (made name) s) (λ key s1. then_do (ask place (step.Get key) s1) (λ answer s2. Well (told_value answer) s2))

abbrev entered : Place → List ℕ → State → Went Datum
entered place key s1 = then_do (ask place (step.Get key) s1) (λ answer s2. Well (told_value answer) s2)

entered_adds : (place : Place) (key : List ℕ) → Adds (entered place key)
entered_adds place key = thens (ask place (step.Get key)) (λ answer s2. Well (told_value answer) s2) (ask_adds place (step.Get key)) (λ answer. well (told_value answer))

module _ {W : Type 0} {reached : W → Origin → W → State → Type 0} {replies : W → List Answer} where
  pub whole_doing : (old new : W) (r : AppReply) (result : Result Value (Failure RunFault)) → Doing reached replies told (λ place. ask place step.All) old new (Ok r) → AnswersAs datum_of (whole_answer r) result
      → Doing reached replies datum_of (λ place s. then_do (ask place step.All s) (whole_application place)) old new result
  whole_doing old new r result does answers = then_doing (λ place. whole_application place) old new new r result does
      (as_doing new new result (λ first origin s stands place a. whole_is place r (given a s)) (result_doing new (whole_answer r) result answers))

  pub whole_failed : (old new : W) (e : Failure RunFault) → Doing reached replies told (λ place. ask place step.All) old new (Err e)
      → Doing reached replies datum_of (λ place s. then_do (ask place step.All s) (whole_application place)) old new (Err e)
  whole_failed old new e does = fail_doing (λ place. whole_application place) old new e (λ place a. whole_adds place a) does

  pub entered_unmade : (w : W) (name : List ℕ) (e : Failure RunFault) → AnswersAs (λ (t : List ℕ). t) (made name) (Err e) → Doing reached replies datum_of (Entering name) w w (Err e)
  entered_unmade w name e answers = answered_failed (λ (t : List ℕ). t) (made name) (λ place key. entered place key) w e (λ place key. entered_adds place key) answers

  pub entered_failed : (old new : W) (name key : List ℕ) (e : Failure RunFault) → made name ≡ Ok key → Doing reached replies told (λ place. ask place (step.Get key)) old new (Err e)
      → Doing reached replies datum_of (Entering name) old new (Err e)
  entered_failed old new name key e is does =
      answered_doing (λ (t : List ℕ). t) (made name) (λ place key. entered place key) old new key (Err e) is
      (fail_doing (λ place answer s2. Well (told_value answer) s2) old new e (λ place answer. well (told_value answer)) does)

  pub entered_well : (old new : W) (name key : List ℕ) (r : AppReply) (v : Value) → made name ≡ Ok key → datum_of v ≡ value_in r → Doing reached replies told (λ place. ask place (step.Get key)) old new (Ok r)
      → Doing reached replies datum_of (Entering name) old new (Ok v)
  entered_well old new name key r v is e does =
      answered_doing (λ (t : List ℕ). t) (made name) (λ place key. entered place key) old new key (Ok v) is
      (then_doing (λ place answer s2. Well (told_value answer) s2) old new new r (Ok v) does
      (as_doing new new (Ok v) (λ first origin s stands place a. ap (λ d. Well d (given a s)) (sym e)) (well_doing new v)))

  module _ (variables : W → ScopeState) (tells : (first w : W) (origin : Origin) (s : State) → reached first origin w s → variables w ≡ s.scopes) where
    -- a scope of the run as an object
    pub scope_doing : (w : W) (sc : Scope) (h : HeldScope) (serving : Serving) (here : Here) (result : Result Value (Failure RunFault)) → held_scope sc ≡ Some h
        → AnswersAs datum_of (measured (rec (entries_of (scope_entries (variables w) h)))) result
        → Doing reached replies datum_of (λ place. implicit_value (served_of serving) here place (implicit_of (object.Scope sc))) w w result
    scope_doing w sc h serving here result e answers = as_doing w w result
        (λ first origin s stands place a.
        ap (λ k. keyed_value (served_of serving) place (keyed_held k) (given a s)) e
        ∙ ap (λ scopes. result_of place (measured (rec (entries_of (scope_entries scopes h)))) (given a s)) (sym (tells first w origin s stands)))
        (result_doing w (measured (rec (entries_of (scope_entries (variables w) h)))) result answers)

    -- its entry under a name
    pub held_doing : (w : W) (sc : Scope) (h : HeldScope) (serving : Serving) (d : Datum) (name : List ℕ) (v : Value) → d ≢ null → text_of d ≡ Ok name → held_scope sc ≡ Some h
        → datum_of v ≡ or_null (entry_at name (scope_entries (variables w) h)) → Doing reached replies datum_of (λ place. entry_of_object (served_of serving) place (keyed_scope sc) d) w w (Ok v)
    held_doing w sc h serving d name v some is e at = as_doing w w (Ok v)
        (λ first origin s stands place a. entry_is (served_of serving) place (keyed_scope sc) d (given a s) some)
        (answered_doing (λ (t : List ℕ). t) (text_of d) (λ place key. entry_under (served_of serving) place (keyed_scope sc) key) w w name (Ok v) is
        (as_doing w w (Ok v)
        (λ first origin s stands place a.
        ap (λ k. entry_under (served_of serving) place (keyed_held k) name (given a s)) e
        ∙ ap (λ scopes. Well (or_null (entry_at name (scope_entries scopes h))) (given a s)) (sym (tells first w origin s stands)) ∙ ap (λ x. Well x (given a s)) (sym at))
        (well_doing w v)))

  -- an object that no scope is
  pub request_doing : (w : W) (serving : Serving) (here : Here) (o : Implicit) (request : Request) (exception : Option Raise) (id : Option (List ℕ)) (params : List Param) (v : Value)
      → ((first : W) (origin : Origin) (s : State) → reached first origin w s → id ≡ s.id) → serving.request ≡ request → serving.exception ≡ exception → params ≡ (run_of here).params
      → ((sc : Scope) → o ≡ object.Scope sc → ⊥) → datum_of v ≡ request_value request exception id params o
      → Doing reached replies datum_of (λ place. implicit_value (served_of serving) here place (implicit_of o)) w w (Ok v)
  request_doing w serving here o request exception id params v tells asks sees given_params other e = as_doing w w (Ok v)
      (λ first origin s stands place a.
      request_is serving here place (given a s) id (sym (tells first origin s stands)) o other
      ∙ ap (λ d. Well d (given a s))
      (ap (λ r. request_value r serving.exception id (run_of here).params o) asks ∙ ap (λ x. request_value request x id (run_of here).params o) sees
      ∙ ap (λ ps. request_value request exception id ps o) (sym given_params) ∙ sym e))
      (well_doing w v)

  pub application_doing : (old new : W) (sc : Scope) (serving : Serving) (here : Here) (result : Result Value (Failure RunFault)) → held_scope sc ≡ None
      → Doing reached replies datum_of (λ place s. then_do (ask place step.All s) (whole_application place)) old new result
      → Doing reached replies datum_of (λ place. implicit_value (served_of serving) here place (implicit_of (object.Scope sc))) old new result
  application_doing old new sc serving here result e does = as_doing old new result (λ first origin s stands place a. ap (λ k. keyed_value (served_of serving) place (keyed_held k) (given a s)) e) does

  -- an entry of a scope under a value
  pub null_doing : (w : W) (sc : Scope) (serving : Serving) (d : Datum) (v : Value) → d ≡ null → datum_of v ≡ null → Doing reached replies datum_of (λ place. entry_of_object (served_of serving) place (keyed_scope sc) d) w w (Ok v)
  null_doing w sc serving d v e is = as_doing w w (Ok v)
      (λ first origin s stands place a. ap (λ x. entry_of_object (served_of serving) place (keyed_scope sc) x (given a s)) e ∙ ap (λ x. Well x (given a s)) (sym is)) (well_doing w v)

  pub entry_failed : (w : W) (sc : Scope) (serving : Serving) (d : Datum) (e : Failure RunFault) → d ≢ null → AnswersAs (λ (t : List ℕ). t) (text_of d) (Err e)
      → Doing reached replies datum_of (λ place. entry_of_object (served_of serving) place (keyed_scope sc) d) w w (Err e)
  entry_failed w sc serving d e some answers = as_doing w w (Err e) (λ first origin s stands place a. entry_is (served_of serving) place (keyed_scope sc) d (given a s) some)
      (answered_failed (λ (t : List ℕ). t) (text_of d) (λ place key. entry_under (served_of serving) place (keyed_scope sc) key) w e (λ place key. under_adds (served_of serving) place (keyed_scope sc) key) answers)

  pub entry_asked : (old new : W) (sc : Scope) (serving : Serving) (d : Datum) (name : List ℕ) (result : Result Value (Failure RunFault)) → d ≢ null → text_of d ≡ Ok name → held_scope sc ≡ None
      → Doing reached replies datum_of (Entering name) old new result → Doing reached replies datum_of (λ place. entry_of_object (served_of serving) place (keyed_scope sc) d) old new result
  entry_asked old new sc serving d name result some is e does = as_doing old new result (λ first origin s stands place a. entry_is (served_of serving) place (keyed_scope sc) d (given a s) some)
      (answered_doing (λ (t : List ℕ). t) (text_of d) (λ place key. entry_under (served_of serving) place (keyed_scope sc) key) old new name result is
      (as_doing old new result (λ first origin s stands place a. ap (λ k. entry_under (served_of serving) place (keyed_held k) name (given a s)) e) does))
