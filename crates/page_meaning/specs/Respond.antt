-- The response of a request: which pages run for it, and what it is answered.
use Rattle.std.specs.Prelude.{ℕ, zero, suc, Bool, true, false, List, [], ◌∷◌, codes, nat_eq, Option, Some, None, Result, Ok, Err, if◌then◌else◌}
use Rattle.std.specs.List.{starts_with}
use Rattle.std.specs.Option.{option_map}
use Rattle.http_in.specs.declared.params.Param.{Param}
use Rattle.http_in.specs.declared.request.Request.{Request}
use Rattle.http_out.specs.declared.status.Status.{Status}
use Rattle.http_out.specs.declared.status.Status.TheVariants as status_is
use Rattle.pg_text.specs.Path.{segments, resolved}
use Rattle.pg_text.specs.declared.resolution.BadPath.{BadPath}
use Rattle.scopes.specs.Scopes.{Entries, ScopeState, starting}
use Rattle.site_words.specs.Law.{Answer}
use Rattle.page_meaning.specs.Context.{Served, Paged, absent, plain, bad, good}
use Rattle.page_meaning.specs.Faults.{Raise, page_fault_line, run_fault_line}
use Rattle.page_meaning.specs.Includes.{page_run}
use Rattle.page_meaning.specs.Meaning.{nodes_mean, below}
use Rattle.page_meaning.specs.declared.limits.TheConstants.{LEVEL_LIMIT}
use Rattle.page_meaning.specs.Page.{Page}
use Rattle.page_meaning.specs.Response.{Answered, awaits, whole, plain_line, not_found, file_type, page_response, redirect_response}
use Rattle.page_meaning.specs.State.{State}
use Rattle.page_meaning.specs.Went.{Did, Well, Raised, Ended, Awaits, forwards, redirects}
use Rattle.page_meaning.specs.Work.{fetched}
use Rattle.out_buffer.specs.Writer.{empty_writer, has_committed}

-- the scopes at the beginning of a page run: one empty frame
abbrev pub first_scopes : ScopeState → ScopeState
first_scopes scopes = record { frames = [] ∷ []; current = 0; request = scopes.request; session = scopes.session }

-- the state at the beginning of a page run: a writer of the page's own, and one empty frame
abbrev pub at_start : Page → State → State
at_start page s = record s { scopes = first_scopes s.scopes; writer = empty_writer page.settings.buffer page.settings.auto_flush }

-- a page run as the first of its kind, with so many levels left below it
abbrev pub first_run : Served → ℕ → Page → List Param → State → Did
first_run served left page params s = page_run (nodes_mean served (below served left)) page params (at_start page s)

-- what is done with the fault that ends a page run before its commit
abbrev pub OnFault : Type 0
OnFault = Page → List Param → Raise → State → Answered

-- the answer where a page run ended: at a forward the target's, on a fault the broken response behind a commit and else what is said
abbrev pub run_answer : (target : List ℕ → List Param → ℕ → State → Answered) → OnFault → Status → Page → List Param → Did → Answered
run_answer target at_fault status page params (Well u s) = page_response status page false s
run_answer target at_fault status page params (Raised f place s) =
    if has_committed s.writer then page_response status page true s
    else at_fault page params (record { fault = f; place = place }) s
run_answer target at_fault status page params (Ended (forwards path more left) s) = target path more left s
run_answer target at_fault status page params (Ended (redirects location) s) = redirect_response location s
run_answer target at_fault status page params (Awaits step s) = awaits step s

-- what stands at a forward's path, or an error page's: a page runs, another file is sent as it is
abbrev pub target_answer : (run : Page → State → Answered) → Status → List ℕ → Paged → State → Answered
target_answer run status path (good page) s = run page s
target_answer run status path (plain t) s = whole status (file_type path) t s
target_answer run status path absent s = not_found s
target_answer run status path (bad f) s = plain_line status_is.InternalServerError (page_fault_line f) s

-- the answer of a page run with so many levels left, and of at most so many forwards behind it; a forward has fewer levels left, so that
-- no chain of forwards is longer than the levels
abbrev pub chain_answer : Served → OnFault → Status → (forwards_left : ℕ) → (left : ℕ) → Page → List Param → State → Answered
chain_answer served at_fault status zero left page params s =
    run_answer (λ path more l s1. plain_line status_is.InternalServerError [] s1) at_fault status page params (first_run served left page params s)
chain_answer served at_fault status (suc n) left page params s =
    run_answer (λ path more l s1. target_answer (λ p s2. chain_answer served at_fault status n l p more s2) status path (served.pages path) s1) at_fault status page params
    (first_run served left page params s)

-- how many calls, includes, fragments and forwards may stand in one another
unfoldable pub level_limit : ℕ
level_limit = LEVEL_LIMIT

-- a page and its forwards from the first level on
abbrev pub from_first_level : Served → OnFault → Status → Page → List Param → State → Answered
from_first_level served at_fault status page params s = chain_answer served at_fault status level_limit level_limit page params s

-- seeing this fault
abbrev pub with_exception : Raise → Served → Served
with_exception r served = record served { exception = Some r }

-- with the visits of an error page, which begin again
abbrev pub with_no_visits : State → State
with_no_visits s = record s { visits = 0 }

-- a fault in an error page: the line of the fault that called it
abbrev pub first_fault : Raise → OnFault
first_fault r page params other s = plain_line status_is.InternalServerError (run_fault_line r) s

-- an error page runs with the failed run's parameters and sees the fault
abbrev pub error_run : Served → Raise → List Param → List ℕ → Page → State → Answered
error_run served r params path page s = from_first_level (with_exception r served) (first_fault r) status_is.InternalServerError page params (with_no_visits (fetched path s))

-- an error page that stands at this path; one that can't run gives the line of the fault
abbrev pub error_answer : Served → Raise → List Param → List ℕ → Paged → State → Answered
error_answer served r params path (good page) s = error_run served r params path page s
error_answer served r params path (plain t) s = whole status_is.InternalServerError (file_type path) t (with_no_visits s)
error_answer served r params path absent s = plain_line status_is.InternalServerError (run_fault_line r) s
error_answer served r params path (bad f) s = plain_line status_is.InternalServerError (run_fault_line r) (fetched path s)

-- the path of a page's error page, where it has one and that names a path
abbrev pub error_path : Page → Option (List ℕ)
error_path page = named page.settings.error_page
  where
    path : Result (List ℕ) BadPath → Option (List ℕ)
    path (Ok p) = Some p
    path (Err reason) = None

    named : Option (List ℕ) → Option (List ℕ)
    named None = None
    named (Some target) = path (resolved (segments (Some page.path) target))

-- the answer to a fault before the commit: the error page at a path, where there is one, or the line of the fault
abbrev pub error_at : Served → Raise → List Param → Option (List ℕ) → State → Answered
error_at served r params None s = plain_line status_is.InternalServerError (run_fault_line r) s
error_at served r params (Some path) s = error_answer served r params path (served.pages path) s

-- a fault before the commit: the error page of the page whose run it ended
abbrev pub on_fault : Served → OnFault
on_fault served page params r s = error_at served r params (error_path page) s

-- the first page: a page is fetched, and where it has a fault its line is answered
abbrev pub path_answer : Served → List Param → List ℕ → Paged → State → Answered
path_answer served params path absent s = not_found s
path_answer served params path (plain t) s = whole status_is.Ok (file_type path) t s
path_answer served params path (bad f) s = plain_line status_is.InternalServerError (page_fault_line f) (fetched path s)
path_answer served params path (good page) s = from_first_level served (on_fault served) status_is.Ok page params (fetched path s)

-- whether a path is hidden from requests
abbrev pub is_hidden : List ℕ → Bool
is_hidden path = starts_with nat_eq path (codes "/WEB-INF/")

-- the answer at a path, where there is one
abbrev pub answer_at : Served → List Param → Option (List ℕ) → State → Answered
answer_at served params None s = not_found s
answer_at served params (Some path) s = if is_hidden path then not_found s else path_answer served params path (served.pages path) s

-- the session that a request found: its id and its attributes
abbrev pub FoundSession : Type 0
FoundSession = List ℕ × Entries

-- the state at the beginning of a request
abbrev pub beginning : Option FoundSession → List Answer → State
beginning session answers = record {
  scopes = starting (option_map (λ f. f.1) session);
  writer = empty_writer None true;
  visits = 0;
  charge = 0;
  id = option_map (λ f. f.0) session;
  is_fresh = false;
  answers = answers;
  asked = [];
  order = [];
}

-- what a request is answered under the pages of one tree, by the session that it found and the answers to its steps
abbrev pub respond : (pages : (path : List ℕ) → Paged) → Request → Option FoundSession → List Answer → Answered
respond pages request session answers =
    answer_at (record { request = request; pages = pages; exception = None }) request.params request.path (beginning session answers)
