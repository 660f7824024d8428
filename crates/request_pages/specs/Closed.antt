-- What a request is answered where a fault ended a page's run, or nothing ran.
use Rattle.std.specs.Prelude.{◌≡◌, ℕ, false, List, [], ◌++◌, Option, Result, Ok, Err}
use Rattle.http_in.specs.declared.params.Param.{Param}
use Rattle.http_in.specs.declared.request.Request.{Request}
use Rattle.http_out.specs.declared.status.Status.TheVariants as status_is
use Rattle.out_buffer.specs.Held.{Held, Stands}
use Rattle.page_meaning.specs.Context.{Served}
use Rattle.page_meaning.specs.Faults.{Raise}
use Rattle.page_meaning.specs.Page.{Page}
use Rattle.page_meaning.specs.Respond.{answer_at, from_first_level, on_fault}
use Rattle.page_meaning.specs.Response.{Answered}
use Rattle.page_meaning.specs.State.{State}
use Rattle.request_pages.specs.PageEnd.{reply_answer}
use Rattle.request_pages.specs.Point.{Point, PointStands}
use Rattle.request_pages.specs.Within.{GoesWithin}
use Rattle.request_pages.specs.declared.reply.Reply.{Reply}
use Rattle.request_pages.specs.declared.reply.Reply.TheVariants as reply
use Rattle.run_world.specs.Origin.{Origin}
use Rattle.run_world.specs.Part.{given}
use Rattle.run_world.specs.declared.around.Around.{Around}
use Rattle.scopes.specs.Scopes.{ScopeState}
use Rattle.site_words.specs.Law.{Answer}
use Rattle.site_words.specs.Running.{Asking}
use Rattle.page_meaning.specs.Growth.{IsOrdered}

-- the scopes, the writer with its sink, the session and what was asked of the port stand for a
-- state; its counts may be others, since memory may run out before they are raised
pub record Reached (origin : Origin) (scopes : ScopeState) (held : Held) (taken : Option (List ℕ)) (faults : ℕ) (around : Around) (asking : Asking) (s : State) : Type 0 where
  pub scopes_are : s.scopes ≡ scopes
  pub asked : s.asked ≡ origin.asked ++ asking.asked
  pub ordered : IsOrdered s
  pub writer : Stands origin.start origin.before held taken faults s.writer
  pub id : s.id ≡ around.id
  pub fresh : s.is_fresh ≡ around.fresh

-- nothing was committed but what the writer holds, and it breaks off only behind a commit
abbrev pub IsReplyOpen : Reply → List (List ℕ) → Type 0
IsReplyOpen (reply.Written broken) pieces = pieces ≡ [] → broken ≡ false
IsReplyOpen (reply.Whole status content_type location body) pieces = pieces ≡ []

-- the reply is the answer, whatever answers are still to come; where memory ran out the request
-- went no further than it goes, behind its head
abbrev pub ClosedSo : {E : Type 0} → (answers : List Answer → Answered) → Held → (after : State) → Result Reply E → Type 0
ClosedSo answers held after (Ok r) = IsReplyOpen r after.writer.pieces × ((future : List Answer) → answers future ≡ reply_answer held r (given future after))
ClosedSo answers held after (Err e) = (future : List Answer) → GoesWithin held.head after (answers future)

-- the rest of a request from a state: the answers that it got, the state in which it ended, and its reply
pub record Closed (answers : List Answer → State → Answered) (stands : State → Type 0) (s : State) (old new : List Answer) (held : Held) {E : Type 0} (result : Result Reply E) : Type 0 where
  pub got : List Answer
  pub replies : new ≡ old ++ got
  pub after : State
  pub stood : stands after
  pub ends : ClosedSo (λ future. answers (got ++ future) s) held after result

-- the same from each state for which one point of the request stands, to another
abbrev pub ClosesFrom : {E : Type 0} → (answers : List Answer → State → Answered) → (old new : Point) → Result Reply E → Type 0
ClosesFrom answers old new result =
    (origin : Origin) (s : State) → PointStands origin old s
    → Closed answers (Reached origin new.state.scopes new.state.writer new.taken new.faults new.state.around new.asking) s old.asking.answers new.asking.answers new.state.writer result

-- the same where nothing was committed
abbrev pub ClosesUncommitted : {E : Type 0} → (answers : List Answer → State → Answered) → (old new : Point) → Result Reply E → Type 0
ClosesUncommitted answers old new result =
    (origin : Origin) (s : State) → PointStands origin old s → s.writer.pieces ≡ []
    → Closed answers (Reached origin new.state.scopes new.state.writer new.taken new.faults new.state.around new.asking) s old.asking.answers new.asking.answers new.state.writer result

-- what a fault is answered under these answers to its steps
abbrev pub fault_answers : Served → Page → List Param → Raise → List Answer → State → Answered
fault_answers served page params r answers s = on_fault served page params r (given answers s)

-- what a request's page is answered under these answers to its steps
abbrev pub first_answers : Served → Page → List Param → List Answer → State → Answered
first_answers served page params answers s = from_first_level served (on_fault served) status_is.Ok page params (given answers s)

-- what a request is answered at its path under these answers to its steps
abbrev pub request_answers : Served → Request → List Answer → State → Answered
request_answers served request answers s = answer_at served request.params request.path (given answers s)
