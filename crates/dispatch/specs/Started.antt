-- A request from its Begin to its end.
use Rattle.std.specs.Prelude.{◌≡◌, ◌≤◌, ◌+◌, ℕ, Bool, true, List, [], ◌++◌, Option, Result, Ok, Err}
use Rattle.std.specs.List.{list_all}
use Rattle.conversation.specs.Exchange.{Exchange}
use Rattle.conversation.specs.Served.{Served}
use Rattle.conversation.specs.declared.desk.Outcome.{Outcome}
use Rattle.edges.specs.Clock.{Answers as Tells, Moments}
use Rattle.http_in.specs.declared.request.Request.{Request}
use Rattle.http_out.specs.declared.head.Head.{Head}
use Rattle.page_answers.specs.Answers.{Answers}
use Rattle.http_out.specs.Methods.{shows_body, takes_method}
use Rattle.page_answers.specs.Dropped.{Drops}
use Rattle.page_answers.specs.Standing.{Begins, Standing, session_found, standing_of, tree_at}
use Rattle.page_answers.specs.Turns.{Turn, all_bytes, all_calls, answers_of, are_whole_but_last, is_whole, steps_of}
use Rattle.compiled_pages.specs.Pages.{needs_at, paged_at}
use Rattle.page_meaning.specs.Respond.{FoundSession, respond}
use Rattle.page_meaning.specs.Response.{Answered}
use Rattle.page_meaning.specs.State.{State}
use Rattle.pass_course.specs.Course.{HasDone}
use Rattle.request_pages.specs.Closed.{IsReplyOpen, Reached}
use Rattle.request_pages.specs.Headed.{IsHeaded}
use Rattle.request_pages.specs.PageEnd.{reply_answer}
use Rattle.request_pages.specs.Within.{GoesWithin}
use Rattle.request_pages.specs.declared.request_state.RequestState.{RequestState}
use Rattle.request_pages.specs.declared.reply.Reply.{Reply}
use Rattle.run_world.specs.Origin.{Origin}
use Rattle.run_world.specs.Part.{given}
use Rattle.site_words.specs.Law.{Answer}
use Rattle.site_words.specs.Running.{Asking}
use Rattle.site_words.specs.declared.words.Entry.{Entry}
use Rattle.site_words.specs.declared.words.Opening.{Opening}
use Rattle.source_tree.specs.declared.file.File.{File}
use Rattle.page_meaning.specs.Growth.{IsOrdered}

-- a request that has just begun: how it is answered, its number, its tree and the session that it found; what the pass had seen and what was
-- read when it began; and what the sink had taken then, and its count of faults
pub record Start : Type 0 where
  pub request : Request
  pub close : Bool
  pub shown : Bool
  pub number : ℕ
  pub tree : List File
  pub found : Option FoundSession
  pub begun : List Entry
  pub steps : ℕ
  pub taken : Option (List ℕ)
  pub faults : ℕ

-- these as a request that has just begun
abbrev pub started : Request → (close shown : Bool) → (number : ℕ) → List File → Option FoundSession → (begun : List Entry) → (steps : ℕ) → (taken : Option (List ℕ)) → (faults : ℕ) → Start
started request close shown number tree found begun steps taken faults =
    record { request = request; close = close; shown = shown; number = number; tree = tree; found = found; begun = begun; steps = steps; taken = taken; faults = faults }

-- a request that has just begun has this number, and is answered so
pub record IsAt (p : Start) (number : ℕ) (close shown : Bool) : Type 0 where
  pub number_is : p.number ≡ number
  pub close_is : p.close ≡ close
  pub shown_is : p.shown ≡ shown

-- from where the response of such a request is counted
abbrev pub origin_of : Start → Origin
origin_of p = record { start = p.taken; before = p.faults; asked = [] }

-- what such a request is answered under these answers to its steps
abbrev pub meant : Start → List Answer → Answered
meant p answers = respond (paged_at p.tree) p.request p.found answers

-- such a request was begun at a moment of the clock, from this standing; moments is what the clock
-- tells then
pub record HasBegun (x : Opening) (pass : ℕ) (old : Standing) (moments : Moments) (p : Start) : Type 0 where
  pub moment : ℕ
  pub told : Tells old.moments moments moment
  pub begins : Begins needs_at x pass p.request.cookie moment old.seen p.begun
  pub number : p.number ≡ begins.request
  pub tree : p.tree ≡ tree_at needs_at x p.begun
  pub found : p.found ≡ session_found needs_at x p.request.cookie p.begun begins.session
  pub steps : p.steps ≡ old.steps
  pub shown : p.shown ≡ shows_body p.request.method
  pub takes : takes_method p.request.method ≡ true

-- what an outcome says of such a request: new is what the pass has seen in the end, now how much
-- was read, taken what the sink has taken, and faults its count
abbrev pub Came : Opening → (pass : ℕ) → (old : Standing) → (moments : Moments) → Start → (new : List Entry) → (now : ℕ) → (taken : Option (List ℕ)) → (faults : ℕ) → Outcome → Type 0
Came x pass old moments p new now taken faults outcome =
    Served (λ close old (e : Exchange) new. Answers needs_at x pass e.request close old e.text e.broken new) (λ close old asked text new. Drops needs_at x pass asked close old text new) p.close p.request old (standing_of new moments now) p.faults
    faults p.taken taken outcome

-- such a request did these turns, and what it keeps stands for this state
pub record Ran (x : Opening) (pass : ℕ) (p : Start) (new : List Entry) (state : RequestState) (taken : Option (List ℕ)) (faults : ℕ) : Type 0 where
  pub turns : List Turn
  pub did : HasDone needs_at x pass p.begun new (all_calls p.number turns)
  pub after : State
  pub asked : after.asked ≡ steps_of turns
  pub asking : Asking
  pub stood : Reached (origin_of p) state.scopes state.writer taken faults state.around asking after
  pub headed : IsHeaded p.close p.shown state.around state.writer

-- the pages of such a request ran to their end, and this is their reply, whatever answers are still
-- to come
pub record Replies (x : Opening) (pass : ℕ) (p : Start) (new : List Entry) (now : ℕ) (state : RequestState) (taken : Option (List ℕ)) (faults : ℕ) (reply : Reply) : Type 0 where
  pub ran : Ran x pass p new state taken faults
  pub whole : list_all is_whole ran.turns ≡ true
  pub read : now ≡ p.steps + all_bytes p.tree ran.turns
  pub is_open : IsReplyOpen reply ran.after.writer.pieces
  pub means : (future : List Answer) → meant p (answers_of x.seed ran.turns ++ future) ≡ reply_answer state.writer reply (given future ran.after)

-- memory ran out, and the pages of such a request went no further than they go, behind this head
pub record Starves (x : Opening) (pass : ℕ) (p : Start) (new : List Entry) (now : ℕ) (head : Head) (reached : State) : Type 0 where
  pub turns : List Turn
  pub stops : are_whole_but_last turns ≡ true
  pub did : HasDone needs_at x pass p.begun new (all_calls p.number turns)
  pub asked : reached.asked ≡ steps_of turns
  pub ordered : IsOrdered reached
  pub read : now ≤ p.steps + all_bytes p.tree turns
  pub means : (more : List Answer) → GoesWithin head reached (meant p (answers_of x.seed turns ++ more))

-- the run of such a request's pages replies, or memory ran out
abbrev pub RunsSo : {E : Type 0} → Opening → (pass : ℕ) → Start → (new : List Entry) → (now : ℕ) → RequestState → (taken : Option (List ℕ)) → (faults : ℕ) → Result Reply E → Type 0
RunsSo x pass p new now state taken faults (Ok reply) = Replies x pass p new now state taken faults reply
RunsSo x pass p new now state taken faults (Err e) = (ran : Ran x pass p new state taken faults) × Starves x pass p new now state.writer.head ran.after
