-- What the end of a page's run answers.
use Rattle.std.specs.Prelude.{◌≡◌, ◌-◌, ◌<◌, ℕ, Bool, true, false, IsErr, List, [], ◌++◌, Some, None, Result, Ok, Err, ⊤}
use Rattle.http_in.specs.declared.params.Param.{Param}
use Rattle.http_out.specs.declared.status.Status.{Status}
use Rattle.http_out.specs.declared.status.Status.TheVariants as status
use Rattle.out_buffer.specs.Held.{Held}
use Rattle.run_pages.specs.RunEnd.{RunEnd}
use Rattle.run_pages.specs.RunEnd.TheVariants as ends
use Rattle.run_pages.specs.Run.{StandsFor, level_limit}
use Rattle.page_meaning.specs.Context.{Served}
use Rattle.page_meaning.specs.Growth.{Grows, state_of}
use Rattle.page_meaning.specs.Page.{Page}
use Rattle.page_meaning.specs.Respond.{OnFault, run_answer}
use Rattle.page_meaning.specs.Response.{Answered, head_of, responds, rest_of}
use Rattle.page_meaning.specs.State.{State}
use Rattle.page_meaning.specs.Went.{Did}
use Rattle.run_pages.specs.Meant.{page_mean}
use Rattle.request_pages.specs.Point.{Point, PointStands}
use Rattle.request_pages.specs.declared.reply.PageEnd.{PageEnd}
use Rattle.request_pages.specs.declared.reply.PageEnd.TheVariants as page_end
use Rattle.request_pages.specs.declared.reply.Reply.{Reply}
use Rattle.request_pages.specs.declared.reply.Reply.TheVariants as reply
use Rattle.run_world.specs.Origin.{Origin}
use Rattle.run_world.specs.Part.{given}
use Rattle.run_world.specs.Seats.{raise_of}
use Rattle.site_words.specs.Law.{Answer}

-- the response that a reply is, by the head of the writer and the state in which the request stands
abbrev pub reply_answer : Held → Reply → State → Answered
reply_answer held (reply.Written broken) s =
    responds (record { head = head_of held.head.status held.head.content_type None s; pieces = s.writer.pieces; rest = rest_of broken s.writer.buffer; broken = broken }) s
reply_answer held (reply.Whole status content_type location body) s = responds (record { head = head_of status content_type location s; pieces = []; rest = body; broken = false }) s

-- what the end of a page's run answers: a reply, what is done with its fault, or what the target of its forward answers
abbrev pub page_end_answer : (target : List ℕ → List Param → ℕ → State → Answered) → OnFault → Held → Page → List Param → PageEnd → (left : ℕ) → State → Answered
page_end_answer target at_fault held page params (page_end.Done r) left s = reply_answer held r s
page_end_answer target at_fault held page params (page_end.Failed raise) left s = at_fault page params (raise_of raise) s
page_end_answer target at_fault held page params (page_end.Forward path more) left s = target path more left s

-- nothing was committed where a page's run ended by a fault that is still to be answered, by a forward or by a redirect, and a response
-- breaks off only behind a commit
abbrev pub IsOpen : PageEnd → List (List ℕ) → Type 0
IsOpen (page_end.Done (reply.Written broken)) pieces = pieces ≡ [] → broken ≡ false
IsOpen other pieces = pieces ≡ []

-- the target of a forward has fewer levels left, by which it is as deep as this
abbrev pub TargetSo : (left depth : ℕ) → PageEnd → (l : ℕ) → Type 0
TargetSo left depth (page_end.Forward path more) l = (l < left) × (depth ≡ level_limit - l)
TargetSo left depth other l = ⊤

-- the run of a page answers as it ended, whatever answers are still to come; where memory ran out
-- it went no further than the page goes
abbrev pub PageEndsSo : {E : Type 0} → (means : List Answer → Did) → Page → List Param → (left depth : ℕ) → Held → (after : State) → Result PageEnd E → Type 0
PageEndsSo means page params left depth held after (Ok g) =
    (l : ℕ) × TargetSo left depth g l × IsOpen g after.writer.pieces
    × ((target : List ℕ → List Param → ℕ → State → Answered) (at_fault : OnFault) (chosen : Status) → chosen ≡ held.head.status → Some page.settings.content_type ≡ held.head.content_type
    → (future : List Answer) → run_answer target at_fault chosen page params (means future) ≡ page_end_answer target at_fault held page params g l (given future after))
PageEndsSo means page params left depth held after (Err e) = (future : List Answer) → Grows after (state_of (means future))

-- the run of a page from a state: the answers that it got, the state in which it ended, and how
pub record PageEnded (served : Served) (page : Page) (params : List Param) (left : ℕ) (stands : State → Type 0) (s : State) (old new : List Answer) (depth : ℕ) (held : Held) {E : Type 0} (result : Result PageEnd E) : Type 0 where
  pub got : List Answer
  pub replies : new ≡ old ++ got
  pub after : State
  pub stood : stands after
  pub ends : PageEndsSo (λ future. page_mean served left page params (given (got ++ future) s)) page params left depth held after result

-- the same from each state for which one point of the request stands, to another
abbrev pub EndsFrom : {E : Type 0} → Served → Page → List Param → (left : ℕ) → (old new : Point) → Result PageEnd E → Type 0
EndsFrom served page params left old new result =
    (origin : Origin) (s : State) → PointStands origin old s
    → PageEnded served page params left (StandsFor origin new.state.scopes new.state.writer new.taken new.faults new.state.around new.asking) s old.asking.answers new.asking.answers new.state.around.depth new.state.writer result

-- how a run ended, as its caller takes it: a fault behind a commit breaks the response off
abbrev pub EndsBy : {E : Type 0} → (committed : Bool) → RunEnd → Result PageEnd E → Type 0
EndsBy committed ends.Normal r = r ≡ Ok (page_end.Done (reply.Written false))
EndsBy true (ends.Raised fault place) r = r ≡ Ok (page_end.Done (reply.Written true))
EndsBy false (ends.Raised fault place) r = r ≡ Ok (page_end.Failed (record { fault = fault; place = place }))
EndsBy committed (ends.Redirect address) r = r ≡ Ok (page_end.Done (reply.Whole status.Found None (Some address) []))
EndsBy committed (ends.Forward path params) r = r ≡ Ok (page_end.Forward path params)
EndsBy committed ends.NoMemory r = IsErr r
