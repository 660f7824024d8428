-- What came of a request, by what was written of its response.
use Rattle.std.proofs.Common.{◌≡◌, ℕ, Bool, true, false, List, [], ◌∷◌, Option, None, Ok, refl, sym, ap, subst, ◌∙◌, arith}
use Rattle.std.specs.Option.{unwrap_or}
use Rattle.std.specs.declared.alloc.AllocError.{AllocError}
use Rattle.conversation.specs.declared.desk.Outcome.{Outcome}
use Rattle.conversation.specs.declared.desk.Outcome.TheVariants as outcome
use Rattle.dispatch.proofs.AnsweredLemmas.{replied_answer, starved_drop}
use Rattle.dispatch.proofs.ReplyLemmas.{head_is}
use Rattle.dispatch.specs.Replied.{Wrote, response_in}
use Rattle.dispatch.specs.Started.{Came, HasBegun, IsAt, Ran, Replies, Start, Starves}
use Rattle.edges.specs.Clock.{Moments}
use Rattle.edges.specs.Faults.{Rose}
use Rattle.http_out.specs.Response.{no_memory, wire}
use Rattle.http_out.specs.Sent.{Sent}
use Rattle.http_out.specs.declared.head.Head.{Head}
use Rattle.out_buffer.specs.Held.{Held}
use Rattle.out_buffer.specs.Streamed.{HasTaken, so_far}
use Rattle.out_buffer.specs.Writer.{has_committed, Writer, has_pieces}
use Rattle.page_answers.specs.Answers.{Answers}
use Rattle.page_answers.specs.Dropped.{closing_head, dropped_text}
use Rattle.page_answers.specs.Standing.{Standing, standing_of}
use Rattle.compiled_pages.specs.Pages.{needs_at}
use Rattle.page_meaning.specs.Response.{closing, head_of}
use Rattle.page_meaning.specs.State.{State}
use Rattle.pass_course.specs.Course.{HasDone}
use Rattle.request_pages.specs.Headed.{IsHeaded}
use Rattle.request_pages.specs.declared.request_state.RequestState.{RequestState}
use Rattle.request_pages.specs.declared.reply.Reply.{Reply}
use Rattle.run_world.specs.declared.around.Around.{Around}
use Rattle.scopes.specs.Scopes.{Entries}
use Rattle.site_words.specs.declared.words.Entry.{Entry}
use Rattle.site_words.specs.declared.words.Op.TheVariants as op
use Rattle.site_words.specs.declared.words.Opening.{Opening}
use Rattle.site_words.specs.declared.words.Reply.TheVariants as reply

-- what nothing was committed of was not sent

pub none_committed : (held : Held) (pieces : List (List ℕ)) (writer : Writer) → writer.pieces ≡ pieces → has_committed writer ≡ false → pieces ≡ []
none_committed held [] writer is none = refl
none_committed held (piece ∷ pieces) writer is none =
    let there : has_pieces (piece ∷ pieces) ≡ false = ap has_pieces (sym is) ∙ none in
    absurd (cc)

pub unsent : (start : Option (List ℕ)) (before : ℕ) (failed : Bool) (taken : Option (List ℕ)) (faults : ℕ) → HasTaken start before [] failed taken faults → HasTaken start before [] false taken faults
unsent start before false taken faults h = h
unsent start before true taken faults h = let bad : ⊥ = omega (arith, h.sent.1) in absurd bad

-- the head that was sent
sent_so_far : (head sent : Head) (close shown : Bool) (pieces : List (List ℕ)) (writer : Writer) → writer.pieces ≡ pieces → has_committed writer ≡ true → sent ≡ closing_head close head → so_far sent shown pieces ≡ dropped_text head close shown pieces
sent_so_far head sent close shown [] writer is some same =
    let none : false ≡ true = ap has_pieces (sym is) ∙ some in
    absurd (cc)
sent_so_far head sent close shown (piece ∷ pieces) writer is some same = ap (λ head. so_far head shown (piece ∷ pieces)) same

-- how it is answered, by the values that its calls take
pub headed_at : (p : Start) (number : ℕ) (close shown : Bool) (around : Around) (held : Held) → IsAt p number close shown → IsHeaded p.close p.shown around held → IsHeaded close shown around held
headed_at p number close shown around held is headed =
    subst (λ close. IsHeaded close shown around held) is.close_is (subst (λ shown. IsHeaded p.close shown around held) is.shown_is headed)

-- where a sink failed its count rose
pub fault_rose : (start : Option (List ℕ)) (before : ℕ) (text : List ℕ) (broken : Bool) (pieces : List (List ℕ)) (taken : Option (List ℕ)) (faults : ℕ) (o : Outcome) → o ≡ outcome.WriteFault → Wrote {E = AllocError} start before text broken pieces taken faults (Ok o)
    → Rose before faults
fault_rose start before text broken pieces taken faults o is wrote = (subst (λ o. Wrote {E = AllocError} start before text broken pieces taken faults (Ok o)) is wrote).1

module _ (x : Opening) (pass : ℕ) (old : Standing) (moments : Moments) (p : Start) (begun : HasBegun x pass old moments p) (new : List Entry) (now : ℕ) where
  -- the response was written, whole or in part
  came_written : (text : List ℕ) (broken : Bool) (pieces : List (List ℕ)) (taken : Option (List ℕ)) (faults : ℕ) (o : Outcome) → Answers needs_at x pass p.request p.close old text broken (standing_of new moments now)
      → Wrote {E = AllocError} p.taken p.faults text broken pieces taken faults (Ok o) → Came x pass old moments p new now taken faults o
  came_written text broken pieces taken faults outcome.Whole answers wrote =
      record { text = text; served = subst (λ b. Answers needs_at x pass p.request p.close old text b (standing_of new moments now)) wrote.1 answers; written = wrote.0 }
  came_written text broken pieces taken faults outcome.Broken answers wrote =
      record { text = text; served = subst (λ b. Answers needs_at x pass p.request p.close old text b (standing_of new moments now)) wrote.1 answers; written = wrote.0 }
  came_written text broken pieces taken faults outcome.WriteFault answers wrote = record { text = text; broken = broken; served = answers; sent = wrote.0 }
  came_written text broken pieces taken faults outcome.NoMemory answers wrote = absurd wrote

  -- its pages replied, and it was ended
  pub came_ended : (mid : List Entry) (state : RequestState) (before taken : Option (List ℕ)) (counted faults : ℕ) (r : Reply) (o : Outcome) (replies : Replies x pass p mid now state before counted r)
      → Wrote {E = AllocError} p.taken p.faults (wire (closing p.close (response_in state.writer r replies.ran.after)) p.shown) (response_in state.writer r replies.ran.after).broken replies.ran.after.writer.pieces taken faults (Ok o)
      → HasDone needs_at x pass mid new ((op.End p.number (unwrap_or state.scopes.session []), reply.Ended) ∷ []) → Came x pass old moments p new now taken faults o
  came_ended mid state before taken counted faults r o replies wrote ended =
      came_written (wire (closing p.close (response_in state.writer r replies.ran.after)) p.shown) (response_in state.writer r replies.ran.after).broken replies.ran.after.writer.pieces taken faults o
      (replied_answer x pass old moments p begun new now mid state before counted r replies ended) wrote

  -- memory ran out before anything was committed, and the plain answer says so
  pub came_silent : (mid : List Entry) (head : Head) (reached : State) (failed : Bool) (taken : Option (List ℕ)) (faults : ℕ) → Starves x pass p mid now head reached → reached.writer.pieces ≡ [] → HasDone needs_at x pass mid new ((op.Abandon p.number, reply.Dropped) ∷ [])
      → Sent p.taken taken (no_memory p.close p.shown) failed → (failed ≡ true → Rose p.faults faults) → Came x pass old moments p new now taken faults outcome.NoMemory
  came_silent mid head reached failed taken faults starves none abandoned sent cause = record {
    text = no_memory p.close p.shown;
    left = starved_drop x pass old moments p begun new now mid reached (no_memory p.close p.shown) head starves abandoned (ap (dropped_text (head_of head.status head.content_type None reached) p.close p.shown) (sym none));
    failed = failed;
    sent = sent;
    cause = cause;
  }

  -- or behind a commit, and what was sent stands
  pub came_cut : (mid : List Entry) (state : RequestState) (taken : Option (List ℕ)) (faults : ℕ) (ran : Ran x pass p mid state taken faults) → state.writer.committed ≡ true → Starves x pass p mid now state.writer.head ran.after
      → HasDone needs_at x pass mid new ((op.Abandon p.number, reply.Dropped) ∷ []) → Came x pass old moments p new now taken faults outcome.NoMemory
  came_cut mid state taken faults ran committed starves abandoned =
      let s = ran.after in
      let held = state.writer in
      let head = head_is ran.stood ran.headed in
      let some = sym ran.stood.writer.committed ∙ committed in
      let streamed = ran.stood.writer.streamed in
      record {
        text = so_far held.head held.shown s.writer.pieces;
        left = starved_drop x pass old moments p begun new now mid s (so_far held.head held.shown s.writer.pieces) held.head starves abandoned
            (ap (λ shown. so_far held.head shown s.writer.pieces) ran.headed.shown_is
            ∙ sent_so_far (head_of held.head.status held.head.content_type None s) held.head p.close p.shown s.writer.pieces s.writer refl some head);
        failed = held.failed;
        sent = streamed.sent;
        cause = streamed.cause;
      }

  -- the same where it was abandoned by its number
  pub came_abandoned : (mid : List Entry) (head : Head) (reached : State) (failed : Bool) (taken : Option (List ℕ)) (faults number : ℕ) (close shown : Bool) → IsAt p number close shown → Starves x pass p mid now head reached → reached.writer.pieces ≡ []
      → HasDone needs_at x pass mid new ((op.Abandon number, reply.Dropped) ∷ []) → Sent p.taken taken (no_memory close shown) failed → (failed ≡ true → Rose p.faults faults) → Came x pass old moments p new now taken faults outcome.NoMemory
  came_abandoned mid head reached failed taken faults number close shown is starves none abandoned sent cause =
      came_silent mid head reached failed taken faults starves none (subst (λ n. HasDone needs_at x pass mid new ((op.Abandon n, reply.Dropped) ∷ [])) (sym is.number_is) abandoned)
      (subst (λ close. Sent p.taken taken (no_memory close p.shown) failed) (sym is.close_is) (subst (λ shown. Sent p.taken taken (no_memory close shown) failed) (sym is.shown_is) sent)) cause

  -- or behind a commit
  pub came_cut_off : (mid : List Entry) (state : RequestState) (taken : Option (List ℕ)) (faults number : ℕ) (close shown : Bool) (ran : Ran x pass p mid state taken faults) → IsAt p number close shown → state.writer.committed ≡ true → Starves x pass p mid now state.writer.head ran.after
      → HasDone needs_at x pass mid new ((op.Abandon number, reply.Dropped) ∷ []) → Came x pass old moments p new now taken faults outcome.NoMemory
  came_cut_off mid state taken faults number close shown ran is committed starves abandoned =
      came_cut mid state taken faults ran committed starves (subst (λ n. HasDone needs_at x pass mid new ((op.Abandon n, reply.Dropped) ∷ [])) (sym is.number_is) abandoned)

  -- its reply was written, and it was ended by its number
  pub came_finished : (mid : List Entry) (state : RequestState) (before taken : Option (List ℕ)) (counted faults number : ℕ) (close shown : Bool) (r : Reply) (o : Outcome) (attrs : Entries) (replies : Replies x pass p mid now state before counted r)
      → IsAt p number close shown
      → Wrote {E = AllocError} p.taken p.faults (wire (closing close (response_in state.writer r replies.ran.after)) shown) (response_in state.writer r replies.ran.after).broken replies.ran.after.writer.pieces taken faults (Ok o)
      → attrs ≡ unwrap_or state.scopes.session [] → HasDone needs_at x pass mid new ((op.End number attrs, reply.Ended) ∷ []) → Came x pass old moments p new now taken faults o
  came_finished mid state before taken counted faults number close shown r o attrs replies is wrote attrs_are ended =
      let response = response_in state.writer r replies.ran.after in
      let pieces = replies.ran.after.writer.pieces in
      came_ended mid state before taken counted faults r o replies
      (subst (λ close. Wrote {E = AllocError} p.taken p.faults (wire (closing close response) p.shown) response.broken pieces taken faults (Ok o)) (sym is.close_is)
      (subst (λ shown. Wrote {E = AllocError} p.taken p.faults (wire (closing close response) shown) response.broken pieces taken faults (Ok o)) (sym is.shown_is) wrote))
      (subst (λ attrs. HasDone needs_at x pass mid new ((op.End p.number attrs, reply.Ended) ∷ [])) attrs_are (subst (λ n. HasDone needs_at x pass mid new ((op.End n attrs, reply.Ended) ∷ [])) (sym is.number_is) ended))
