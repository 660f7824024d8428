-- What runs one deeper, what leaves the page, and what a catch takes, is orderly.
use Rattle.std.proofs.Common.{◌≡◌, ◌<◌, ℕ, Bool, true, false, List, [], ◌∷◌, ◌++◌, length, Option, Some, None, Result, Ok, Err, refl, sym, ap, ◌∙◌, subst}
use Rattle.std.specs.Prelude.{◌&&◌, if◌then◌else◌}
use Rattle.std.specs.List.{list_any}
use Rattle.edges.proofs.Own.{front_same}
use Rattle.http_in.specs.declared.params.Param.{Param}
use Rattle.pg_text.specs.declared.place.Place.{Place}
use Rattle.pg_text.specs.declared.resolution.BadPath.{BadPath}
use Rattle.pg_value.specs.Datum.{Datum}
use Rattle.pg_value.specs.declared.fault.RunFault.{RunFault}
use Rattle.pg_value.specs.declared.fault.RunFault.TheVariants as fault
use Rattle.scopes.specs.Scopes.{Entries, ScopeState, with_frame, with_frame_of, turned_to}
use Rattle.site_words.specs.Law.{Answer}
use Rattle.page_meaning.specs.Addresses.{is_control, redirect_mean}
use Rattle.page_meaning.specs.Attributes.{Values, Coercion}
use Rattle.page_meaning.specs.Context.{Served, Run, Here, in_page, in_tag, run_of, Called, GivenBody, nothing, source_text, body_nodes, Paged, absent, plain, bad, good, Deeper, no_deeper, deeper}
use Rattle.page_meaning.specs.Core.{is_caught, catch_mean}
use Rattle.page_meaning.specs.Exports.{is_at_end, is_at_fragment, copied_out, given_back}
use Rattle.page_meaning.specs.Faults.{fault_record}
use Rattle.page_meaning.specs.Fragments.{given_run, given_deeper, fragment_mean}
use Rattle.page_meaning.specs.Growth.{state_of, with_more, Grows, AsksOn, GoesOn, Leaves}
use Rattle.page_meaning.specs.Includes.{target_path, target_params, is_page_path, fetched_or_fault, ask_page, starts_session, session_started, page_run, included_end, included, include_path, include_at, include_mean, left_for, forward_path, forward_at, forward_mean}
use Rattle.page_meaning.specs.Loops.{with_named}
use Rattle.page_meaning.specs.Page.{Page, Nodes, Attributes, Body, TagFile}
use Rattle.page_meaning.specs.State.{State, in_scopes, in_writer, with_asked}
use Rattle.site_words.specs.PageSteps.{Step, fresh, fetch}
use Rattle.page_meaning.specs.Tags.{first_frame, call_ended, call_run, call_of, call_mean, tag_mean, tag_coercion}
use Rattle.page_meaning.specs.Variables.{back_to}
use Rattle.page_meaning.specs.Went.{Went, Did, Well, Raised, Ended, Awaits, Leaving, forwards, redirects, then_do, either, result_of}
use Rattle.page_meaning.specs.Work.{is_spent, fetched}
use Rattle.out_buffer.specs.Writer.{has_committed, with_bodies, cleared}
use Rattle.page_meaning.proofs.Actions.{composed_calm, with_named_calm, without_named_calm}
use Rattle.page_meaning.proofs.Growing.{asks, both, quiet, same, starts, uncommitted, uncommitted_start}
use Rattle.page_meaning.proofs.Orderly.{OrderlyAt, Orderly, Calm, well, raised, result, changed, behind, then_at, thens, tidied_at, eithers}
use Rattle.page_meaning.proofs.Values.{with_values_orderly}
use Rattle.page_meaning.proofs.Words.{scopes_calm, writer_calm, back_calm, fetched_calm, put_text_orderly}
use Rattle.tag_decl.specs.Declare.{declared}

-- what is made of an end, whatever the answers
pub record Passes (left : ℕ) {A B : Type 0} (change : Went A → Went B) : Type 0 where
  pub grows : (w : Went A) → Grows (state_of w) (state_of (change w))
  pub well : (a : A) (s : State) (more : List Answer) → GoesOn more (change (Well a s)) (change (Well a (with_more more s)))
  pub raised : (f : RunFault) (place : Place) (s : State) (more : List Answer) → GoesOn more (change (Raised f place s)) (change (Raised f place (with_more more s)))
  pub ended : (leaving : Leaving) (s : State) (more : List Answer) → GoesOn more (change (Ended leaving s)) (change (Ended leaving (with_more more s)))
  pub awaits : (step : Step) (s : State) → change (Awaits step s) ≡ Awaits step s
  pub leaves : (w : Went A) → Leaves left w → Leaves left (change w)

passed_asks : {A B : Type 0} (left : ℕ) (change : Went A → Went B) → Passes left change → (step : Step) (s : State) (more : List Answer) (w : Went A) → AsksOn step s more w → AsksOn step s more (change w)
passed_asks left change passes step s [] w e = ap change e ∙ passes.awaits step (with_more [] s)
passed_asks left change passes step s (answer ∷ rest) w g = both (with_asked step s) (state_of w) (state_of (change w)) g (passes.grows w)

pub passed : {A B : Type 0} (left : ℕ) (change : Went A → Went B) → Passes left change → (s : State) (w : Went A) (ws : List Answer → Went A) → OrderlyAt left s w ws
    → OrderlyAt left s (change w) (λ more. change (ws more))
passed left change passes s (Well a t) ws h = record {
  grows = both s t (state_of (change (Well a t))) h.grows (passes.grows (Well a t));
  goes_on = λ more. subst (λ x. GoesOn more (change (Well a t)) (change x)) (sym (h.goes_on more)) (passes.well a t more);
  leaves = passes.leaves (Well a t) h.leaves;
}
passed left change passes s (Raised f place t) ws h = record {
  grows = both s t (state_of (change (Raised f place t))) h.grows (passes.grows (Raised f place t));
  goes_on = λ more. subst (λ x. GoesOn more (change (Raised f place t)) (change x)) (sym (h.goes_on more)) (passes.raised f place t more);
  leaves = passes.leaves (Raised f place t) h.leaves;
}
passed left change passes s (Ended leaving t) ws h = record {
  grows = both s t (state_of (change (Ended leaving t))) h.grows (passes.grows (Ended leaving t));
  goes_on = λ more. subst (λ x. GoesOn more (change (Ended leaving t)) (change x)) (sym (h.goes_on more)) (passes.ended leaving t more);
  leaves = passes.leaves (Ended leaving t) h.leaves;
}
passed left change passes s (Awaits step t) ws h =
    let at : OrderlyAt left s (Awaits step t) (λ more. change (ws more)) = record {
      grows = h.grows;
      goes_on = λ more. ((h.goes_on more).0, passed_asks left change passes step t more (ws more) (h.goes_on more).1, (h.goes_on more).2);
      leaves = tt;
    } in
    subst (λ w. OrderlyAt left s w (λ more. change (ws more))) (sym (passes.awaits step t)) at

-- a catch
caught_calm : (name : Option (List ℕ)) (bodies : ℕ) (f : RunFault) (place : Place)
    → Calm (λ s. with_named name (fault_record (record { fault = f; place = place })) (in_writer (with_bodies bodies s.writer) s))
caught_calm name bodies f place =
    composed_calm (λ s. in_writer (with_bodies bodies s.writer) s) (with_named name (fault_record (record { fault = f; place = place })))
    (writer_calm (with_bodies bodies) (λ w. refl)) (with_named_calm name (fault_record (record { fault = f; place = place })))

abbrev caught_if : Bool → Option (List ℕ) → ℕ → RunFault → Place → State → Did
caught_if b name bodies f place s =
    if b then Well tt (with_named name (fault_record (record { fault = f; place = place })) (in_writer (with_bodies bodies s.writer) s)) else Raised f place s

caught_grows : (b : Bool) (name : Option (List ℕ)) (bodies : ℕ) (f : RunFault) (place : Place) (s : State) → Grows s (state_of (caught_if b name bodies f place s))
caught_grows true name bodies f place s = (caught_calm name bodies f place).grows s
caught_grows false name bodies f place s = same s

caught_goes_on : (b : Bool) (name : Option (List ℕ)) (bodies : ℕ) (f : RunFault) (place : Place) (s : State) (more : List Answer)
    → GoesOn more (caught_if b name bodies f place s) (caught_if b name bodies f place (with_more more s))
caught_goes_on true name bodies f place s more = ap (Well tt) ((caught_calm name bodies f place).kept s more)
caught_goes_on false name bodies f place s more = refl

caught_leaves : (b : Bool) (left : ℕ) (name : Option (List ℕ)) (bodies : ℕ) (f : RunFault) (place : Place) (s : State) → Leaves left (caught_if b name bodies f place s)
caught_leaves true left name bodies f place s = tt
caught_leaves false left name bodies f place s = tt

catch_grows : (name : Option (List ℕ)) (bodies : ℕ) (w : Did) → Grows (state_of w) (state_of (catch_mean name bodies w))
catch_grows name bodies (Well u s) = (without_named_calm name).grows s
catch_grows name bodies (Raised f place s) = caught_grows (is_caught f) name bodies f place s
catch_grows name bodies (Ended leaving s) = same s
catch_grows name bodies (Awaits step s) = same s

catch_leaves : (left : ℕ) (name : Option (List ℕ)) (bodies : ℕ) (w : Did) → Leaves left w → Leaves left (catch_mean name bodies w)
catch_leaves left name bodies (Well u s) h = tt
catch_leaves left name bodies (Raised f place s) h = caught_leaves (is_caught f) left name bodies f place s
catch_leaves left name bodies (Ended leaving s) h = h
catch_leaves left name bodies (Awaits step s) h = tt

catch_passes : (left : ℕ) (name : Option (List ℕ)) (bodies : ℕ) → Passes left (catch_mean name bodies)
catch_passes left name bodies = record {
  grows = catch_grows name bodies;
  well = λ u s more. ap (Well tt) ((without_named_calm name).kept s more);
  raised = λ f place s more. caught_goes_on (is_caught f) name bodies f place s more;
  ended = λ leaving s more. refl;
  awaits = λ step s. refl;
  leaves = catch_leaves left name bodies;
}

pub catch_orderly : {left : ℕ} (name : Option (List ℕ)) (body : State → Did) → Orderly left body → Orderly left (λ s. catch_mean name (length s.writer.kept) (body s))
catch_orderly {left} name body h s =
    passed left (catch_mean name (length s.writer.kept)) (catch_passes left name (length s.writer.kept)) s (body s) (λ more. body (with_more more s)) (h s)

-- the end of an included page
included_calm : (before : State) → Calm (λ s. back_to before.scopes (in_writer (with_bodies (length before.writer.kept) s.writer) s))
included_calm before =
    composed_calm (λ s. in_writer (with_bodies (length before.writer.kept) s.writer) s) (back_to before.scopes) (writer_calm (with_bodies (length before.writer.kept)) (λ w. refl)) (back_calm before.scopes)

included_grows : (place : Place) (before : State) (w : Did) → Grows (state_of w) (state_of (included_end place before w))
included_grows place before (Well u s) = (back_calm before.scopes).grows s
included_grows place before (Raised f p s) = (back_calm before.scopes).grows s
included_grows place before (Ended (forwards path params l) s) = same s
included_grows place before (Ended (redirects location) s) = (included_calm before).grows s
included_grows place before (Awaits step s) = same s

included_ended : (place : Place) (before : State) (leaving : Leaving) (s : State) (more : List Answer)
    → GoesOn more (included_end place before (Ended leaving s)) (included_end place before (Ended leaving (with_more more s)))
included_ended place before (forwards path params l) s more = refl
included_ended place before (redirects location) s more = ap (Well tt) ((included_calm before).kept s more)

included_leaves : (left : ℕ) (place : Place) (before : State) (w : Did) → Leaves left w → Leaves left (included_end place before w)
included_leaves left place before (Well u s) h = tt
included_leaves left place before (Raised f p s) h = tt
included_leaves left place before (Ended (forwards path params l) s) h = h
included_leaves left place before (Ended (redirects location) s) h = tt
included_leaves left place before (Awaits step s) h = tt

included_passes : (left : ℕ) (place : Place) (before : State) → Passes left (included_end place before)
included_passes left place before = record {
  grows = included_grows place before;
  well = λ u s more. refl;
  raised = λ f p s more. refl;
  ended = included_ended place before;
  awaits = λ step s. refl;
  leaves = included_leaves left place before;
}

-- what runs one deeper is orderly, and has fewer levels left
abbrev pub DeepOrderly : ℕ → Deeper → Type 0
DeepOrderly left no_deeper = Unit {0}
DeepOrderly left (deeper l run) = (l < left) × ((nodes : Nodes) (here : Here) → Orderly left (run nodes here))

-- a session's start
started_at : (left : ℕ) (s : State) (answers : List Answer) → s.answers ≡ answers → has_committed s.writer ≡ false
    → OrderlyAt left s (session_started answers s) (λ more. session_started (answers ++ more) (with_more more s))
started_at left s [] none free = record { grows = same s; goes_on = λ more. (none, waits more, refl); leaves = tt }
  where
    waits : (more : List Answer) → AsksOn fresh s more (session_started more (with_more more s))
    waits [] = refl
    waits (answer ∷ rest) = starts (with_asked fresh s) (state_of (session_started (answer ∷ rest) (with_more (answer ∷ rest) s))) free (front_same (with_asked fresh s).asked) (front_same (with_asked fresh s).order) refl
started_at left s (answer ∷ rest) some free = record {
  grows = starts s (state_of (session_started (answer ∷ rest) s)) free (fresh ∷ [], refl) (length s.writer.pieces ∷ [], refl) refl;
  goes_on = λ more. refl;
  leaves = tt;
}

abbrev started_if : Bool → List Answer → State → Did
started_if b answers s = either b (session_started answers) (λ s1. Well tt s1) s

start_at : (left : ℕ) (b : Bool) (s : State) → (b ≡ true → has_committed s.writer ≡ false) → OrderlyAt left s (started_if b s.answers s) (λ more. started_if b (s.answers ++ more) (with_more more s))
start_at left true s free = started_at left s s.answers refl (free refl)
start_at left false s free = well tt s

pub page_run_orderly : {left : ℕ} (run : Nodes → Here → State → Did) (page : Page) (params : List Param) → ((nodes : Nodes) (here : Here) → Orderly left (run nodes here))
    → Orderly left (page_run run page params)
page_run_orderly {left} run page params h s =
    then_at s (started_if (starts_session page s) s.answers s) (λ more. started_if (starts_session page s) (s.answers ++ more) (with_more more s))
    (λ u s1. run page.nodes (in_page (record { page = page; params = params })) s1) (start_at left (starts_session page s) s (uncommitted_start page s)) (λ u. h page.nodes (in_page (record { page = page; params = params })))

module _ {left : ℕ} where
  fetched_or_fault_orderly : (place : Place) (path : List ℕ) (paged : Paged) → Orderly left (fetched_or_fault place path paged)
  fetched_or_fault_orderly place path absent = raised fault.NoSuchPage place
  fetched_or_fault_orderly place path (plain t) = well (plain t)
  fetched_or_fault_orderly place path (bad f) = behind (Raised fault.BadPage place) (fetched path) (fetched_calm path) (raised fault.BadPage place)
  fetched_or_fault_orderly place path (good page) = changed (good page) (fetched path) (fetched_calm path)

  ask_page_orderly : (served : Served) (place : Place) (path : List ℕ) → Orderly left (ask_page served place path)
  ask_page_orderly served place path s =
      eithers (is_page_path path && is_spent s) (Raised fault.AppTooMuch place) (fetched_or_fault place path (served.pages path)) (raised fault.AppTooMuch place)
      (fetched_or_fault_orderly place path (served.pages path)) s

  included_orderly : (run : Nodes → Here → State → Did) (place : Place) (params : List Param) (paged : Paged) → ((nodes : Nodes) (here : Here) → Orderly left (run nodes here))
      → Orderly left (included run place params paged)
  included_orderly run place params (good page) h s =
      passed left (included_end place s) (included_passes left place s) s (page_run run page params (in_scopes (with_frame s.scopes) s))
      (λ more. page_run run page params (in_scopes (with_frame s.scopes) (with_more more s)))
      (behind (page_run run page params) (λ s1. in_scopes (with_frame s1.scopes) s1) (scopes_calm with_frame) (page_run_orderly run page params h) s)
  included_orderly run place params (plain t) h s = put_text_orderly place t s
  included_orderly run place params absent h s = well tt s
  included_orderly run place params (bad f) h s = well tt s

  include_path_orderly : (served : Served) (deep : Deeper) (place : Place) (params : List Param) (path : List ℕ) → DeepOrderly left deep → Orderly left (include_path served deep place params path)
  include_path_orderly served no_deeper place params path h = raised fault.TooDeep place
  include_path_orderly served (deeper l run) place params path h =
      thens (ask_page served place path) (λ paged s1. included run place params paged s1) (ask_page_orderly served place path) (λ paged. included_orderly run place params paged h.1)

  include_at_orderly : (served : Served) (deep : Deeper) (place : Place) (params : List Param) (r : Result (List ℕ) BadPath) → DeepOrderly left deep
      → Orderly left (include_at served deep place params r)
  include_at_orderly served deep place params (Ok path) h = include_path_orderly served deep place params path h
  include_at_orderly served deep place params (Err reason) h = raised fault.NoSuchPage place

  pub include_orderly : (served : Served) (deep : Deeper) (place : Place) (run : Run) (target : List ℕ) (params : List Param) → DeepOrderly left deep
      → Orderly left (include_mean served deep place run target params)
  include_orderly served deep place run target params h = include_at_orderly served deep place (target_params run target params) (target_path run target) h

  -- calls and fragments
  call_run_orderly : (deep : Deeper) (place : Place) (call : Called) (entries : Entries) (here : Here) → DeepOrderly left deep → Orderly left (call_run deep place call entries here)
  call_run_orderly no_deeper place call entries here h s = raised fault.TooDeep place s
  call_run_orderly (deeper l run) place call entries here h s =
      let inner = in_tag (run_of here) call here in
      let ended : ScopeState → ScopeState = λ scopes. given_back call.exports s.scopes call.frame (copied_out is_at_end call.exports call.frame scopes) in
      tidied_at (back_to s.scopes) (back_calm s.scopes) s
      (then_do (run call.tag.nodes inner (in_scopes (with_frame_of entries s.scopes) s)) (λ u s1. call_ended call s.scopes s1))
      (λ more. then_do (run call.tag.nodes inner (in_scopes (with_frame_of entries s.scopes) (with_more more s))) (λ u s1. call_ended call s.scopes s1))
      (then_at s (run call.tag.nodes inner (in_scopes (with_frame_of entries s.scopes) s)) (λ more. run call.tag.nodes inner (in_scopes (with_frame_of entries s.scopes) (with_more more s)))
      (λ u s1. call_ended call s.scopes s1)
      (behind (run call.tag.nodes inner) (λ s1. in_scopes (with_frame_of entries s1.scopes) s1) (scopes_calm (with_frame_of entries)) (h.1 call.tag.nodes inner) s)
      (λ u. changed tt (λ s1. in_scopes (ended s1.scopes) s1) (scopes_calm ended)))

  call_orderly : (deep : Deeper) (place : Place) (tag : TagFile) (attributes : Attributes) (b : Body) (here : Here) (vs : Values) → DeepOrderly left deep
      → Orderly left (call_mean deep place tag attributes b here vs)
  call_orderly deep place tag attributes b here vs h =
      thens (result_of place (first_frame tag.decl vs)) (λ entries s1. call_run deep place (call_of tag attributes b entries s1) entries here s1) (result place (first_frame tag.decl vs))
      (λ entries s1. call_run_orderly deep place (call_of tag attributes b entries s1) entries here h s1)

  pub tag_orderly : (deep : Deeper) (place : Place) (o : Option TagFile) (attributes : Attributes) (b : Body) (here : Here) (values : (List ℕ → Coercion) → State → Went (List Datum))
      → DeepOrderly left deep → ((coercion : List ℕ → Coercion) → Orderly left (values coercion)) → Orderly left (tag_mean deep place o attributes b here values)
  tag_orderly deep place (Some tag) attributes b here values h k =
      with_values_orderly (λ name. tag_coercion (declared name tag.decl.attributes)) attributes values (λ vs s1. call_mean deep place tag attributes b here vs s1)
      (k (λ name. tag_coercion (declared name tag.decl.attributes))) (λ vs. call_orderly deep place tag attributes b here vs h)
  tag_orderly deep place None _ _ here values h k = well tt

  given_run_orderly : (run : Nodes → Here → State → Did) (place : Place) (g : GivenBody) (call : Called) (caller : Here) → ((nodes : Nodes) (here : Here) → Orderly left (run nodes here))
      → Orderly left (given_run run place g call caller)
  given_run_orderly run place nothing call caller h = well tt
  given_run_orderly run place (source_text t) call caller h = put_text_orderly place t
  given_run_orderly run place (body_nodes nodes) call caller h =
      behind (run nodes caller) (λ s. in_scopes (turned_to s.scopes call.frame) s) (scopes_calm (λ scopes. turned_to scopes call.frame)) (h nodes caller)

  given_deeper_orderly : (deep : Deeper) (place : Place) (g : GivenBody) (here : Here) → DeepOrderly left deep → Orderly left (given_deeper deep place g here)
  given_deeper_orderly no_deeper place g (in_page run) h s = well tt s
  given_deeper_orderly (deeper l run) place g (in_page r) h s = well tt s
  given_deeper_orderly no_deeper place g (in_tag r call caller) h s = raised fault.TooDeep place s
  given_deeper_orderly (deeper l run) place g (in_tag r call caller) h s =
      let before : ScopeState → ScopeState = copied_out is_at_fragment call.exports call.frame in
      tidied_at (back_to s.scopes) (back_calm s.scopes) s (given_run run place g call caller (in_scopes (before s.scopes) s))
      (λ more. given_run run place g call caller (in_scopes (before s.scopes) (with_more more s)))
      (behind (given_run run place g call caller) (λ s1. in_scopes (before s1.scopes) s1) (scopes_calm before) (given_run_orderly run place g call caller h.1) s)

  pub fragment_orderly : (deep : Deeper) (place : Place) (g : GivenBody) (here : Here) → DeepOrderly left deep → Orderly left (fragment_mean deep place g here)
  fragment_orderly deep place nothing here h = well tt
  fragment_orderly deep place (source_text t) here h = given_deeper_orderly deep place (source_text t) here h
  fragment_orderly deep place (body_nodes nodes) here h = given_deeper_orderly deep place (body_nodes nodes) here h

-- a redirect, unless its location has a byte that none has
abbrev addressed : Bool → Place → List ℕ → State → Did
addressed b place url s = either b (Raised fault.BadUrl place) (Ended (redirects url)) s

module _ {left : ℕ} where
  left_at : (path : List ℕ) (params : List Param) (l : ℕ) (s : State) → l < left → s.writer.pieces ≡ []
      → OrderlyAt left s (left_for path params l s) (λ more. left_for path params l (with_more more s))
  left_at path params l s fewer none = record { grows = quiet s (in_writer (cleared s.writer) s) refl refl refl; goes_on = λ more. refl; leaves = (fewer, none) }

  left_behind : (path : List ℕ) (params : List Param) (l : ℕ) (s : State) → l < left → s.writer.pieces ≡ []
      → OrderlyAt left s (left_for path params l (fetched path s)) (λ more. left_for path params l (fetched path (with_more more s)))
  left_behind path params l s fewer none =
      record { grows = asks (fetch path) s (state_of (left_for path params l (fetched path s))) refl refl refl; goes_on = λ more. refl; leaves = (fewer, none) }

  paged_at : (place : Place) (path : List ℕ) (params : List Param) (l : ℕ) (paged : Paged) (s : State) → l < left → s.writer.pieces ≡ []
      → OrderlyAt left s (then_do (fetched_or_fault place path paged s) (λ p s1. left_for path params l s1))
      (λ more. then_do (fetched_or_fault place path paged (with_more more s)) (λ p s1. left_for path params l s1))
  paged_at place path params l absent s fewer none = raised fault.NoSuchPage place s
  paged_at place path params l (plain t) s fewer none = left_at path params l s fewer none
  paged_at place path params l (bad f) s fewer none = behind (Raised fault.BadPage place) (fetched path) (fetched_calm path) (raised fault.BadPage place) s
  paged_at place path params l (good page) s fewer none = left_behind path params l s fewer none

  forward_path_at : (served : Served) (deep : Deeper) (place : Place) (params : List Param) (path : List ℕ) (s : State) → DeepOrderly left deep → s.writer.pieces ≡ []
      → OrderlyAt left s (forward_path served deep place params path s) (λ more. forward_path served deep place params path (with_more more s))
  forward_path_at served no_deeper place params path s h none = raised fault.TooDeep place s
  forward_path_at served (deeper l run) place params path s h none = go (is_page_path path && is_spent s)
    where
      go : (b : Bool) → OrderlyAt left s (then_do (either b (Raised fault.AppTooMuch place) (fetched_or_fault place path (served.pages path)) s) (λ p s1. left_for path params l s1))
          (λ more. then_do (either b (Raised fault.AppTooMuch place) (fetched_or_fault place path (served.pages path)) (with_more more s)) (λ p s1. left_for path params l s1))
      go true = raised fault.AppTooMuch place s
      go false = paged_at place path params l (served.pages path) s h.0 none

  forward_at_at : (served : Served) (deep : Deeper) (place : Place) (params : List Param) (r : Result (List ℕ) BadPath) (s : State) → DeepOrderly left deep → s.writer.pieces ≡ []
      → OrderlyAt left s (forward_at served deep place params r s) (λ more. forward_at served deep place params r (with_more more s))
  forward_at_at served deep place params (Ok path) s h none = forward_path_at served deep place params path s h none
  forward_at_at served deep place params (Err reason) s h none = raised fault.NoSuchPage place s

  pub forward_orderly : (served : Served) (deep : Deeper) (place : Place) (run : Run) (target : List ℕ) (params : List Param) → DeepOrderly left deep
      → Orderly left (forward_mean served deep place run target params)
  forward_orderly served deep place run target params h s = go (has_committed s.writer) refl
    where
      part : State → Did
      part = forward_at served deep place (target_params run target params) (target_path run target)

      go : (b : Bool) → has_committed s.writer ≡ b → OrderlyAt left s (either b (Raised fault.Committed place) part s) (λ more. either b (Raised fault.Committed place) part (with_more more s))
      go true e = raised fault.Committed place s
      go false e = forward_at_at served deep place (target_params run target params) (target_path run target) s h (uncommitted s.writer.pieces e)

  addressed_at : (b : Bool) (place : Place) (url : List ℕ) (s : State) → s.writer.pieces ≡ [] → OrderlyAt left s (addressed b place url s) (λ more. addressed b place url (with_more more s))
  addressed_at true place url s none = raised fault.BadUrl place s
  addressed_at false place url s none = record { grows = same s; goes_on = λ more. refl; leaves = none }

  pub redirect_orderly : (place : Place) (url : List ℕ) → Orderly left (redirect_mean place url)
  redirect_orderly place url s = go (has_committed s.writer) refl
    where
      part : State → Did
      part = addressed (list_any is_control url) place url

      go : (b : Bool) → has_committed s.writer ≡ b → OrderlyAt left s (either b (Raised fault.Committed place) part s) (λ more. either b (Raised fault.Committed place) part (with_more more s))
      go true e = raised fault.Committed place s
      go false e = addressed_at (list_any is_control url) place url s (uncommitted s.writer.pieces e)
