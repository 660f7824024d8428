-- What comes behind a page's run.
use Rattle.std.proofs.Common.{◌≡◌, ◌<◌, ◌≤◌, ℕ, zero, suc, Bool, true, false, List, [], ◌∷◌, Option, Some, None, refl, sym, ◌∙◌, arith, length}
use Rattle.std.specs.Prelude.{if◌then◌else◌}
use Rattle.http_in.specs.declared.params.Param.{Param}
use Rattle.http_out.specs.declared.status.Status.{Status}
use Rattle.http_out.specs.declared.status.Status.TheVariants as status_is
use Rattle.out_buffer.specs.Writer.{has_committed}
use Rattle.page_meaning.proofs.Growing.{asks, both, quiet, same, starts, uncommitted, uncommitted_start}
use Rattle.page_meaning.specs.Context.{Paged, Served, absent, bad, good, in_page, plain}
use Rattle.page_meaning.specs.Faults.{Raise}
use Rattle.page_meaning.specs.Growth.{Grows, Leaves, state_of}
use Rattle.page_meaning.specs.Includes.{page_run, session_started, starts_session}
use Rattle.page_meaning.specs.Laws.{ChainsEnd, ForwardsLeaveFewer, StepsAndPiecesGrow}
use Rattle.page_meaning.specs.Meaning.{below, nodes_mean}
use Rattle.page_meaning.specs.Page.{Page}
use Rattle.page_meaning.specs.Respond.{OnFault, at_start, chain_answer, error_answer, error_at, error_path, first_fault, first_run, level_limit, on_fault, run_answer, target_answer, with_exception, with_no_visits}
use Rattle.page_meaning.specs.Response.{Answered, end_state, page_response}
use Rattle.page_meaning.specs.State.{State}
use Rattle.page_meaning.specs.Went.{Did, Well, Raised, Ended, Awaits, either, forwards, redirects, then_do}
use Rattle.page_meaning.specs.Work.{fetched}
use Rattle.response_laws.specs.Laws.{ChainsUnfold, FaultsGrow, RunsGrowOn, target_of}
use Rattle.site_words.specs.Law.{Answer}
use Rattle.site_words.specs.PageSteps.{fetch, fresh}

-- a page's run leaves fewer levels, and only adds

module _ (leaves : ForwardsLeaveFewer) (grows : StepsAndPiecesGrow) (served : Served) (left : ℕ) (page : Page) (params : List Param) where
  begun_leaves : (d : Did) → Leaves left d → Leaves left (then_do d (λ u s1. nodes_mean served (below served left) page.nodes (in_page (record { page = page; params = params })) s1))
  begun_leaves (Well u s) h = leaves.nodes left served page.nodes (in_page (record { page = page; params = params })) s
  begun_leaves (Raised f place s) h = h
  begun_leaves (Ended leaving s) h = h
  begun_leaves (Awaits step s) h = h

  session_leaves : (b : Bool) (answers : List Answer) (s : State) → Leaves left (either b (session_started answers) (λ s1. Well tt s1) s)
  session_leaves true [] s = tt
  session_leaves true (answer ∷ rest) s = tt
  session_leaves false answers s = tt

  pub run_leaves : (s : State) → Leaves left (page_run (nodes_mean served (below served left)) page params s)
  run_leaves s = begun_leaves (either (starts_session page s) (session_started s.answers) (λ s1. Well tt s1) s) (session_leaves (starts_session page s) s.answers s)

  pub first_leaves : (s : State) → Leaves left (first_run served left page params s)
  first_leaves s = run_leaves (at_start page s)

  begun_grows : (s : State) (d : Did) → Grows s (state_of d) → Grows s (state_of (then_do d (λ u s1. nodes_mean served (below served left) page.nodes (in_page (record { page = page; params = params })) s1)))
  begun_grows s (Well u t) h =
      both s t (state_of (nodes_mean served (below served left) page.nodes (in_page (record { page = page; params = params })) t)) h (grows.nodes left served page.nodes (in_page (record { page = page; params = params })) t)
  begun_grows s (Raised f place t) h = h
  begun_grows s (Ended leaving t) h = h
  begun_grows s (Awaits step t) h = h

  session_grows : (b : Bool) (answers : List Answer) (s : State) → (b ≡ true → has_committed s.writer ≡ false) → Grows s (state_of (either b (session_started answers) (λ s1. Well tt s1) s))
  session_grows true [] s free = same s
  session_grows true (answer ∷ rest) s free = starts s (state_of (session_started (answer ∷ rest) s)) (free refl) (fresh ∷ [], refl) (length s.writer.pieces ∷ [], refl) refl
  session_grows false answers s free = same s

  pub run_grows : (s : State) → Grows s (state_of (page_run (nodes_mean served (below served left)) page params s))
  run_grows s = begun_grows s (either (starts_session page s) (session_started s.answers) (λ s1. Well tt s1) s) (session_grows (starts_session page s) s.answers s (uncommitted_start page s))

  started : (s : State) → s.writer.pieces ≡ [] → Grows s (at_start page s)
  started s none = quiet s (at_start page s) refl (sym none) refl

  pub first_grows : (s : State) → s.writer.pieces ≡ [] → Grows s (state_of (first_run served left page params s))
  first_grows s none = both s (at_start page s) (state_of (first_run served left page params s)) (started s none) (run_grows (at_start page s))

-- chains unfold

targets_same : (left : ℕ) (one other : List ℕ → List Param → ℕ → State → Answered) (at_fault : OnFault) (status : Status) (page : Page) (params : List Param) (d : Did) → Leaves left d
    → ((path : List ℕ) (more : List Param) (l : ℕ) (s : State) → l < left → one path more l s ≡ other path more l s)
    → run_answer one at_fault status page params d ≡ run_answer other at_fault status page params d
targets_same left one other at_fault status page params (Well u s) h same = refl
targets_same left one other at_fault status page params (Raised f place s) h same = refl
targets_same left one other at_fault status page params (Ended (forwards path more l) s) h same = same path more l s h.0
targets_same left one other at_fault status page params (Ended (redirects location) s) h same = refl
targets_same left one other at_fault status page params (Awaits step s) h same = refl

target_same : (one other : Page → State → Answered) (status : Status) (path : List ℕ) (paged : Paged) (s : State) → ((page : Page) → one page s ≡ other page s)
    → target_answer one status path paged s ≡ target_answer other status path paged s
target_same one other status path absent s same = refl
target_same one other status path (plain t) s same = refl
target_same one other status path (bad f) s same = refl
target_same one other status path (good page) s same = same page

within_levels : (left : ℕ) → left ≤ 100 → left ≤ level_limit
unfolding level_limit
within_levels left few = few

pub chains_unfold : ChainsEnd → ForwardsLeaveFewer → StepsAndPiecesGrow → ChainsUnfold
chains_unfold ends leaves grows served at_fault status left page params s few =
    ends served at_fault status level_limit (suc left) left page params s (within_levels left few) (omega arith)
    ∙ targets_same left (λ path more l s1. target_answer (λ p s2. chain_answer served at_fault status left l p more s2) status path (served.pages path) s1) (target_of served at_fault status) at_fault status page params
    (first_run served left page params s) (first_leaves leaves grows served left page params s)
    (λ path more l s1 less.
    target_same (λ p s2. chain_answer served at_fault status left l p more s2) (λ p s2. chain_answer served at_fault status level_limit l p more s2) status path (served.pages path) s1
    (λ p. ends served at_fault status left level_limit l p more s1 (omega (arith, less)) (within_levels l (omega (arith, less, few)))))

-- what comes behind a run only adds to it

abbrev TargetsGrow : (List ℕ → List Param → ℕ → State → Answered) → Type 0
TargetsGrow target = (path : List ℕ) (more : List Param) (l : ℕ) (s : State) → s.writer.pieces ≡ [] → Grows s (end_state (target path more l s))

module _ (target : List ℕ → List Param → ℕ → State → Answered) (at_fault : OnFault) (status : Status) (page : Page) (params : List Param) (targets : TargetsGrow target) (faults : FaultsGrow at_fault) where
  fault_grows : (b : Bool) (r : Raise) (s : State) → has_committed s.writer ≡ b → Grows s (end_state (if b then page_response status page true s else at_fault page params r s))
  fault_grows true r s e = same s
  fault_grows false r s e = faults page params r s (uncommitted s.writer.pieces e)

  pub answer_grows : (left : ℕ) (d : Did) → Leaves left d → Grows (state_of d) (end_state (run_answer target at_fault status page params d))
  answer_grows left (Well u s) h = same s
  answer_grows left (Raised f place s) h = fault_grows (has_committed s.writer) (record { fault = f; place = place }) s refl
  answer_grows left (Ended (forwards path more l) s) h = targets path more l s h.1
  answer_grows left (Ended (redirects location) s) h = same s
  answer_grows left (Awaits step s) h = same s

target_grows : (run : Page → State → Answered) → ((page : Page) (s : State) → s.writer.pieces ≡ [] → Grows s (end_state (run page s))) → (status : Status) (path : List ℕ) (paged : Paged) (s : State) → s.writer.pieces ≡ []
    → Grows s (end_state (target_answer run status path paged s))
target_grows run h status path absent s none = same s
target_grows run h status path (plain t) s none = same s
target_grows run h status path (bad f) s none = same s
target_grows run h status path (good page) s none = h page s none

module _ (leaves : ForwardsLeaveFewer) (grows : StepsAndPiecesGrow) where
  module _ (served : Served) (at_fault : OnFault) (status : Status) (faults : FaultsGrow at_fault) where
    pub chain_grows : (n left : ℕ) (page : Page) (params : List Param) (s : State) → s.writer.pieces ≡ [] → Grows s (end_state (chain_answer served at_fault status n left page params s))
    chain_grows zero left page params s none =
        both s (state_of (first_run served left page params s)) (end_state (chain_answer served at_fault status zero left page params s)) (first_grows leaves grows served left page params s none)
        (answer_grows (λ path more l s1. Rattle.page_meaning.specs.Response.plain_line status_is.InternalServerError [] s1) at_fault status page params (λ path more l s1 none. same s1) faults left
        (first_run served left page params s) (first_leaves leaves grows served left page params s))
    chain_grows (suc n) left page params s none =
        both s (state_of (first_run served left page params s)) (end_state (chain_answer served at_fault status (suc n) left page params s)) (first_grows leaves grows served left page params s none)
        (answer_grows (λ path more l s1. target_answer (λ p s2. chain_answer served at_fault status n l p more s2) status path (served.pages path) s1) at_fault status page params
        (λ path more l s1 none. target_grows (λ p s2. chain_answer served at_fault status n l p more s2) (λ p s2 none. chain_grows n l p more s2 none) status path (served.pages path) s1 none) faults left
        (first_run served left page params s) (first_leaves leaves grows served left page params s))

    pub run_grows_on : (left : ℕ) (page : Page) (params : List Param) (s : State)
        → Grows (state_of (first_run served left page params s)) (end_state (run_answer (target_of served at_fault status) at_fault status page params (first_run served left page params s)))
    run_grows_on left page params s =
        answer_grows (target_of served at_fault status) at_fault status page params
        (λ path more l s1 none. target_grows (λ p s2. chain_answer served at_fault status level_limit l p more s2) (λ p s2 none. chain_grows level_limit l p more s2 none) status path (served.pages path) s1 none) faults left
        (first_run served left page params s) (first_leaves leaves grows served left page params s)

  pub first_fault_grows : (r : Raise) → FaultsGrow (first_fault r)
  first_fault_grows r page params other s none = same s

  fetched_grows : (path : List ℕ) (s : State) → Grows s (fetched path s)
  fetched_grows path s = asks (fetch path) s (fetched path s) refl refl refl

  error_grows : (served : Served) (r : Raise) (params : List Param) (path : List ℕ) (paged : Paged) (s : State) → s.writer.pieces ≡ [] → Grows s (end_state (error_answer served r params path paged s))
  error_grows served r params path (good page) s none =
      both s (fetched path s) (end_state (error_answer served r params path (good page) s)) (fetched_grows path s)
      (both (fetched path s) (with_no_visits (fetched path s)) (end_state (error_answer served r params path (good page) s)) (quiet (fetched path s) (with_no_visits (fetched path s)) refl refl refl)
      (chain_grows (with_exception r served) (first_fault r) status_is.InternalServerError (first_fault_grows r) level_limit level_limit page params (with_no_visits (fetched path s)) none))
  error_grows served r params path (plain t) s none = quiet s (with_no_visits s) refl refl refl
  error_grows served r params path absent s none = same s
  error_grows served r params path (bad f) s none = fetched_grows path s

  error_at_grows : (served : Served) (r : Raise) (params : List Param) (o : Option (List ℕ)) (s : State) → s.writer.pieces ≡ [] → Grows s (end_state (error_at served r params o s))
  error_at_grows served r params None s none = same s
  error_at_grows served r params (Some path) s none = error_grows served r params path (served.pages path) s none

  pub on_fault_grows : (served : Served) → FaultsGrow (on_fault served)
  on_fault_grows served page params r s none = error_at_grows served r params (error_path page) s none

  pub runs_grow_on : RunsGrowOn
  runs_grow_on = record {
    behind = λ served at_fault status left page params s faults. run_grows_on served at_fault status faults left page params s;
    chain = λ served at_fault status left page params s faults none. chain_grows served at_fault status faults level_limit left page params s none;
    target = λ served at_fault status path more left s faults none.
        target_grows (λ p s2. chain_answer served at_fault status level_limit left p more s2) (λ p s2 none. chain_grows served at_fault status faults level_limit left p more s2 none) status path (served.pages path) s none;
    first = first_fault_grows;
    error = on_fault_grows;
  }
