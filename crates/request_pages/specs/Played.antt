-- What a page that isn't included answers, from the state in which the request comes to it.
use Rattle.std.specs.Prelude.{◌≡◌, ◌+◌, ◌≤◌, ℕ, List, ◌++◌, Option, is_some, if◌then◌else◌, Result, Ok, Err}
use Rattle.http_in.specs.declared.params.Param.{Param}
use Rattle.http_out.specs.declared.status.Status.{Status}
use Rattle.out_buffer.specs.Held.{Held}
use Rattle.run_pages.specs.Run.{StandsFor}
use Rattle.request_port.specs.Dropped.{HeadsSo}
use Rattle.page_meaning.specs.Context.{Served}
use Rattle.page_meaning.specs.Growth.{Grows, state_of}
use Rattle.page_meaning.specs.Page.{Page}
use Rattle.page_meaning.specs.Respond.{OnFault, first_run, run_answer}
use Rattle.page_meaning.specs.Response.{Answered}
use Rattle.page_meaning.specs.State.{State}
use Rattle.page_meaning.specs.Went.{Did}
use Rattle.request_pages.specs.PageEnd.{IsOpen, TargetSo, page_end_answer}
use Rattle.request_pages.specs.Point.{Point, PointStands}
use Rattle.request_pages.specs.Within.{sent_head}
use Rattle.request_pages.specs.declared.reply.PageEnd.{PageEnd}
use Rattle.run_stage.specs.declared.limits.TheConstants.{RUN_PROMISE}
use Rattle.run_world.specs.Origin.{Origin}
use Rattle.run_world.specs.Part.{given}
use Rattle.run_world.specs.declared.around.Around.{Around}
use Rattle.site_words.specs.Law.{Answer}
use Rattle.site_words.specs.Running.{Asking}

-- what a session that may still be made takes of the promise
abbrev pub session_claim : Option (List ℕ) → ℕ
session_claim id = if is_some id then 0 else 64

-- the charge and what is left of the promise cover all that may still be asked
abbrev pub IsFunded : Around → Asking → Type 0
IsFunded around asking = RUN_PROMISE + session_claim around.id ≤ around.charge + asking.left

-- a page's run answers as it ended, whatever answers are still to come; where memory ran out it
-- went no further than the page goes, behind the head of what answers
abbrev pub PlayedSo : {E : Type 0} → (runs : List Answer → Did) → Status → Page → List Param → (left depth : ℕ) → Held → (after : State) → Result PageEnd E → Type 0
PlayedSo runs status page params left depth held after (Ok g) =
    (l : ℕ) × TargetSo left depth g l × IsOpen g after.writer.pieces
    × ((target : List ℕ → List Param → ℕ → State → Answered) (at_fault : OnFault) (future : List Answer) → run_answer target at_fault status page params (runs future) ≡ page_end_answer target at_fault held page params g l (given future after))
PlayedSo runs status page params left depth held after (Err e) =
    (future : List Answer) → Grows after (state_of (runs future))
    × ((target : List ℕ → List Param → ℕ → State → Answered) (at_fault : OnFault) → HeadsSo (sent_head held.head after) after.writer.pieces (run_answer target at_fault status page params (runs future)))

-- the run of a page from the state in which the request comes to it: the answers that it got, the state in which it ended, and how
pub record Played (served : Served) (status : Status) (page : Page) (params : List Param) (left : ℕ) (stands : State → Type 0) (s : State) (old new : List Answer) (depth : ℕ) (held : Held) {E : Type 0} (result : Result PageEnd E) : Type 0 where
  pub got : List Answer
  pub replies : new ≡ old ++ got
  pub after : State
  pub stood : stands after
  pub ends : PlayedSo (λ future. first_run served left page params (given (got ++ future) s)) status page params left depth held after result

-- the same from each state for which one point of the request stands, to another
abbrev pub PlaysFrom : {E : Type 0} → Served → Status → Page → List Param → (left : ℕ) → (old new : Point) → Result PageEnd E → Type 0
PlaysFrom served status page params left old new result =
    (origin : Origin) (s : State) → PointStands origin old s
    → Played served status page params left (StandsFor origin new.state.scopes new.state.writer new.taken new.faults new.state.around new.asking) s old.asking.answers new.asking.answers new.state.around.depth new.state.writer result
