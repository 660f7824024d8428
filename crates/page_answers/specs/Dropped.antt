-- What is left of a request for which memory ran out.
use Rattle.std.specs.Prelude.{◌≡◌, ◌⊎◌, ℕ, ◌+◌, ◌≤◌, Bool, true, List, [], ◌∷◌, ◌++◌, ⊤}
use Rattle.std.specs.Bool.{MatchBool}
use Rattle.http_in.specs.declared.request.Request.{Request}
use Rattle.http_out.specs.Response.{no_memory}
use Rattle.http_out.specs.declared.head.Head.{Head}
use Rattle.out_buffer.specs.Streamed.{opened}
use Rattle.page_meaning.specs.Growth.{Grows, IsOrdered}
use Rattle.page_meaning.specs.Respond.{respond}
use Rattle.page_meaning.specs.Response.{Answered, awaits, end_state, responds}
use Rattle.page_meaning.specs.State.{State}
use Rattle.site_words.specs.Calls.{Stays}
use Rattle.site_words.specs.Law.{Answer}
use Rattle.site_words.specs.Trees.{Needs}
use Rattle.site_words.specs.declared.words.Entry.{Entry}
use Rattle.site_words.specs.declared.words.Op.TheVariants as op
use Rattle.site_words.specs.declared.words.Opening.{Opening}
use Rattle.site_words.specs.declared.words.Reply.TheVariants as reply
use Rattle.http_out.specs.Methods.{shows_body, takes_method}
use Rattle.pass_course.specs.Course.{HasDone}
use Rattle.compiled_pages.specs.Pages.{paged_at}
use Rattle.page_answers.specs.Standing.{Standing, AtMoment, Begins, session_found, tree_at}
use Rattle.page_answers.specs.Turns.{Turn, all_bytes, all_calls, answers_of, are_whole_but_last, steps_of}

-- a head on a connection that closes behind the response, or doesn't
abbrev pub closing_head : (close : Bool) → Head → Head
closing_head close head = record head { close = close }

-- what is written where memory runs out: the plain answer that says so where nothing was committed,
-- else the head and the chunks so far
abbrev pub dropped_text : Head → (close shown : Bool) → (pieces : List (List ℕ)) → List ℕ
dropped_text head close shown [] = no_memory close shown
dropped_text head close shown (piece ∷ pieces) = opened (closing_head close head) shown (piece ∷ pieces)

-- where pieces were committed, what answers behind them has this head
abbrev pub HeadsSo : Head → (pieces : List (List ℕ)) → Answered → Type 0
HeadsSo head [] answered = ⊤
HeadsSo head (piece ∷ pieces) (responds response end) = response.head ≡ head
HeadsSo head (piece ∷ pieces) (awaits step end) = ⊤

-- no request was begun, and nothing was written
pub record IsUnbegun (needs : Needs) (x : Opening) (pass : ℕ) (old : Standing) (text : List ℕ) (new : Standing) : Type 0 where
  pub stays : Stays needs x pass old.seen new.seen
  pub read : new.steps ≡ old.steps
  pub text_is : text ≡ []

-- the request was begun, did a front of the steps that its pages ask, whatever they would be told next, the last of them perhaps without its
-- Offer, and was abandoned; what it had committed stands at the front of what they commit, behind the head of their response. All that they commit
-- before a step which was done was committed, and nothing that they commit behind a step which wasn't
pub record IsDropped (needs : Needs) (x : Opening) (pass : ℕ) (request : Request) (close : Bool) (old : Standing) (text : List ℕ) (new : Standing) (moment : ℕ) : Type 0 where
  pub begun : List Entry
  pub begins : Begins needs x pass request.cookie moment old.seen begun
  pub turns : List Turn
  pub whole : are_whole_but_last turns ≡ true
  pub reached : State
  pub asked : reached.asked ≡ steps_of turns
  pub ordered : IsOrdered reached
  pub means : (more : List Answer) → Grows reached (end_state (respond (paged_at (tree_at needs x begun)) request (session_found needs x request.cookie begun begins.session) (answers_of x.seed turns ++ more)))
  pub did : HasDone needs x pass begun new.seen (all_calls begins.request turns ++ (op.Abandon begins.request, reply.Dropped) ∷ [])
  pub read : new.steps ≤ old.steps + all_bytes (tree_at needs x begun) turns
  pub head : Head
  pub heads : (more : List Answer) → HeadsSo head reached.writer.pieces (respond (paged_at (tree_at needs x begun)) request (session_found needs x request.cookie begun begins.session) (answers_of x.seed turns ++ more))
  pub text_is : text ≡ dropped_text head close (shows_body request.method) reached.writer.pieces

-- what is left where memory ran out
abbrev pub Drops : Needs → Opening → (pass : ℕ) → Request → (close : Bool) → (old : Standing) → (text : List ℕ) → (new : Standing) → Type 0
Drops needs x pass request close old text new =
    MatchBool (takes_method request.method)
    (AtMoment old new (λ moment. IsUnbegun needs x pass old text new ⊎ IsDropped needs x pass request close old text new moment))
    ((new ≡ old) × (text ≡ []))
