-- What a request is answered at its path.
use Rattle.std.proofs.Common.{◌≡◌, ◌⊎◌, if◌then◌else◌, ℕ, Bool, true, false, List, [], ◌++◌, Option, Some, None, refl, sym, ap, subst, ◌∙◌}
use Rattle.std.specs.Prelude.{Result, Ok, Err}
use Rattle.http_in.specs.declared.params.Param.{Param}
use Rattle.http_in.specs.declared.request.Request.{Request}
use Rattle.http_out.specs.declared.status.Status.TheVariants as status_is
use Rattle.out_buffer.specs.Held.{Held}
use Rattle.run_pages.specs.Run.{StandsFor}
use Rattle.compiled_pages.specs.Pages.{found_as, paged_at}
use Rattle.page_meaning.proofs.Growing.{asks, both}
use Rattle.page_meaning.specs.Context.{Paged, Served, absent, bad, good, plain}
use Rattle.page_meaning.specs.Growth.{Grows}
use Rattle.page_meaning.specs.Page.{Page}
use Rattle.page_meaning.specs.Respond.{answer_at, is_hidden, level_limit, on_fault, path_answer}
use Rattle.page_meaning.specs.Response.{end_state, not_found}
use Rattle.page_meaning.specs.State.{State}
use Rattle.page_meaning.specs.Work.{fetched}
use Rattle.pg_text.specs.declared.place.PageFault.{PageFault}
use Rattle.request_pages.proofs.CloseLemmas.{closed_look, plain_grows}
use Rattle.request_pages.specs.Closed.{Closed, ClosedSo, Reached, first_answers, request_answers}
use Rattle.request_pages.specs.declared.reply.Reply.{Reply}
use Rattle.request_pages.specs.Within.{GoesWithin}
use Rattle.response_laws.specs.Laws.{RunsGrowOn}
use Rattle.run_world.specs.Origin.{Origin}
use Rattle.run_world.proofs.Parts.{adds_given}
use Rattle.run_world.specs.Part.{given}
use Rattle.run_world.specs.declared.around.Around.{Around}
use Rattle.scopes.specs.Scopes.{ScopeState}
use Rattle.site_words.specs.Law.{Answer}
use Rattle.site_words.specs.PageSteps.{fetch}
use Rattle.site_words.specs.Running.{Asking, HasLooked}
use Rattle.source_tree.specs.Edits.{file_at}
use Rattle.source_tree.specs.declared.file.File.{File}

fetched_grows : (path : List ℕ) (s : State) → Grows s (fetched path s)
fetched_grows path s = asks (fetch path) s (fetched path s) refl refl refl

-- what a request's page is answered adds to the steps asked and the pieces committed
first_grows : RunsGrowOn → (served : Served) (page : Page) (params : List Param) (s : State) (future : List Answer) → s.writer.pieces ≡ [] → Grows s (end_state (first_answers served page params future s))
first_grows grow served page params s future none =
    adds_given future s (end_state (first_answers served page params future s)) (grow.chain served (on_fault served) status_is.Ok level_limit page params (given future s) (grow.error served) none)

-- so does what is answered at a path
path_grows : RunsGrowOn → (served : Served) (params : List Param) (path : List ℕ) (found : Paged) (s : State) (future : List Answer) → s.writer.pieces ≡ [] → Grows s (end_state (path_answer served params path found (given future s)))
path_grows grow served params path absent s future none = plain_grows s future
path_grows grow served params path (plain t) s future none = plain_grows s future
path_grows grow served params path (bad f) s future none = let g = fetched_grows path s in record { asked = g.asked; order = g.order; pieces = g.pieces; session = g.session }
path_grows grow served params path (good page) s future none =
    both s (fetched path s) (end_state (first_answers served page params future (fetched path s))) (fetched_grows path s) (first_grows grow served page params (fetched path s) future none)

open_grows : RunsGrowOn → (served : Served) (params : List Param) (path : List ℕ) (hidden : Bool) (s : State) (future : List Answer) → s.writer.pieces ≡ []
    → Grows s (end_state (if hidden then not_found (given future s) else path_answer served params path (served.pages path) (given future s)))
open_grows grow served params path true s future none = plain_grows s future
open_grows grow served params path false s future none = path_grows grow served params path (served.pages path) s future none

at_grows : RunsGrowOn → (served : Served) (params : List Param) (path : Option (List ℕ)) (s : State) (future : List Answer) → s.writer.pieces ≡ [] → Grows s (end_state (answer_at served params path (given future s)))
at_grows grow served params None s future none = plain_grows s future
at_grows grow served params (Some path) s future none = open_grows grow served params path (is_hidden path) s future none

-- whatever a request is answered adds to the steps asked and the pieces committed
pub request_grows : RunsGrowOn → (served : Served) (request : Request) (s : State) → s.writer.pieces ≡ [] → (future : List Answer) → Grows s (end_state (request_answers served request future s))
request_grows grow served request s none future = at_grows grow served request.params request.path s future none

-- a request that names no path
pub says_nowhere : (served : Served) (request : Request) (s : State) (future : List Answer) → request.path ≡ None → request_answers served request future s ≡ not_found (given future s)
says_nowhere served request s future named = ap (λ p. answer_at served request.params p (given future s)) named

-- one whose path is hidden
pub says_hidden : (served : Served) (request : Request) (path : List ℕ) (s : State) (future : List Answer) → request.path ≡ Some path → is_hidden path ≡ true → request_answers served request future s ≡ not_found (given future s)
says_hidden served request path s future named hidden =
    ap (λ p. answer_at served request.params p (given future s)) named ∙ ap (λ b. if b then not_found (given future s) else path_answer served request.params path (served.pages path) (given future s)) hidden

-- one at whose path this stands
pub says_at : (served : Served) (request : Request) (path : List ℕ) (found : Paged) (s : State) (future : List Answer) → request.path ≡ Some path → is_hidden path ≡ false → served.pages path ≡ found
    → request_answers served request future s ≡ path_answer served request.params path found (given future s)
says_at served request path found s future named shown is =
    ap (λ p. answer_at served request.params p (given future s)) named
    ∙ (ap (λ b. if b then not_found (given future s) else path_answer served request.params path (served.pages path) (given future s)) shown
    ∙ ap (λ f. path_answer served request.params path f (given future s)) is)

-- the page at its path answers
pub request_first : {E : Type 0} (served : Served) (request : Request) (path : List ℕ) (page : Page) (stands : State → Type 0) (s : State) (old mid new : List Answer) (held : Held) (result : Result Reply E) → request.path ≡ Some path → is_hidden path ≡ false
    → served.pages path ≡ good page → mid ≡ old → Closed (first_answers served page request.params) stands (fetched path s) mid new held result → Closed (request_answers served request) stands s old new held result
request_first {E = E} served request path page stands s old mid new held result named shown is same closed = record {
  got = closed.got;
  replies = closed.replies ∙ ap (λ l. l ++ closed.got) same;
  after = closed.after;
  stood = closed.stood;
  ends = so result closed.ends;
}
  where
    goes : (future : List Answer) → request_answers served request (closed.got ++ future) s ≡ first_answers served page request.params (closed.got ++ future) (fetched path s)
    goes future = says_at served request path (good page) s (closed.got ++ future) named shown is

    so : (result : Result Reply E) → ClosedSo (λ future. first_answers served page request.params (closed.got ++ future) (fetched path s)) held closed.after result → ClosedSo (λ future. request_answers served request (closed.got ++ future) s) held closed.after result
    so (Ok r) (opened, answers) = (opened, λ future. goes future ∙ answers future)
    so (Err e) short = λ future. subst (GoesWithin held.head closed.after) (sym (goes future)) (short future)

module _ (grow : RunsGrowOn) (served : Served) (tree : List File) (pages : (p : List ℕ) → served.pages p ≡ paged_at tree p) (request : Request) (path : List ℕ) (named : request.path ≡ Some path) (shown : is_hidden path ≡ false) (s : State)
    (none : s.writer.pieces ≡ []) where
  request_behind : (read : Result Page PageFault) → paged_at tree path ≡ found_as true (Some read) None → (future : List Answer) → Grows (fetched path s) (end_state (request_answers served request future s))
  request_behind (Ok page) is future =
      subst (λ a. Grows (fetched path s) (end_state a)) (sym (says_at served request path (good page) s future named shown (pages path ∙ is))) (first_grows grow served page request.params (fetched path s) future none)
  request_behind (Err fault) is future = subst (λ a. Grows (fetched path s) (end_state a)) (sym (says_at served request path (bad fault) s future named shown (pages path ∙ is))) (plain_grows (fetched path s) future)

  -- where memory ran out in a look at its path nothing more was done
  pub request_looked : {E : Type 0} (e : E) (origin : Origin) (scopes : ScopeState) (held : Held) (taken : Option (List ℕ)) (faults : ℕ) (around : Around) (old new : Asking) → StandsFor origin scopes held taken faults around old s
      → HasLooked old new path (file_at path tree) ⊎ (new ≡ old) → Closed (request_answers served request) (Reached origin scopes held taken faults around new) s old.answers new.answers held {E = E} (Err e)
  request_looked e origin scopes held taken faults around old new stands looked =
      closed_look (request_answers served request) tree path origin scopes held taken faults around old new s stands none (request_grows grow served request s none) request_behind e looked
