-- What a request that was begun is answered, and what is left of it where memory ran out.
use Rattle.std.proofs.Common.{◌≡◌, ◌≤◌, ◌+◌, inl, ℕ, true, List, [], ◌∷◌, ◌++◌, Option, refl, sym, ap, subst, ◌∙◌, append-nil, inr, arith}
use Rattle.std.specs.List.{list_all}
use Rattle.std.specs.Option.{unwrap_or}
use Rattle.dispatch.proofs.ServedLemmas.{answers_taken, drops_taken}
use Rattle.dispatch.specs.Replied.{response_in}
use Rattle.dispatch.specs.Started.{HasBegun, Replies, Start, Starves, meant}
use Rattle.edges.specs.Clock.{Moments}
use Rattle.http_out.specs.Response.{Response, wire}
use Rattle.http_out.specs.declared.head.Head.{Head}
use Rattle.out_buffer.specs.Held.{Held}
use Rattle.page_answers.proofs.HeadLemmas.{no_head}
use Rattle.page_answers.proofs.TurnLemmas.{whole_but_last}
use Rattle.page_answers.specs.Answers.{Answers, attrs_left}
use Rattle.page_answers.specs.Dropped.{Drops, HeadsSo, dropped_text}
use Rattle.page_answers.specs.Standing.{Standing, session_found, standing_of, tree_at}
use Rattle.page_answers.specs.Turns.{Turn, all_bytes, all_calls, answers_of, are_whole_but_last, is_whole, steps_of}
use Rattle.compiled_pages.specs.Pages.{needs_at, paged_at}
use Rattle.page_meaning.proofs.Growing.{quiet}
use Rattle.page_meaning.specs.Growth.{Grows, IsOrdered}
use Rattle.page_meaning.specs.Respond.{respond}
use Rattle.page_meaning.specs.Response.{closing, end_state, responds}
use Rattle.page_meaning.specs.State.{State}
use Rattle.pass_course.proofs.CourseLemmas.{courses_join}
use Rattle.pass_course.specs.Course.{HasDone}
use Rattle.request_pages.specs.Closed.{IsReplyOpen}
use Rattle.request_pages.specs.PageEnd.{reply_answer}
use Rattle.request_pages.specs.Within.{GoesWithin, sent_head}
use Rattle.request_pages.specs.declared.request_state.RequestState.{RequestState}
use Rattle.request_pages.specs.declared.reply.Reply.{Reply}
use Rattle.request_pages.specs.declared.reply.Reply.TheVariants as replied
use Rattle.run_world.specs.Part.{given}
use Rattle.scopes.specs.Scopes.{ScopeState}
use Rattle.site_words.specs.Law.{Answer}
use Rattle.site_words.specs.declared.words.Entry.{Entry}
use Rattle.site_words.specs.declared.words.Op.TheVariants as op
use Rattle.site_words.specs.declared.words.Opening.{Opening}
use Rattle.site_words.specs.declared.words.Reply.TheVariants as reply

-- what a reply answers

pub reply_is : (held : Held) (r : Reply) (s : State) → reply_answer held r (given [] s) ≡ responds (response_in held r s) (given [] s)
reply_is held (replied.Written broken) s = refl
reply_is held (replied.Whole status content_type location body) s = refl

grows_given : (more : List Answer) (s : State) → Grows s (given more s)
grows_given more s = quiet s (given more s) refl refl refl

reply_grows : (held : Held) (r : Reply) (more : List Answer) (s : State) → Grows s (end_state (reply_answer held r (given more s)))
reply_grows held (replied.Written broken) more s = grows_given more s
reply_grows held (replied.Whole status content_type location body) more s = grows_given more s

written_heads : (head : Head) (pieces : List (List ℕ)) (response : Response) (end : State) → response.head ≡ head → HeadsSo head pieces (responds response end)
written_heads head [] response end is = tt
written_heads head (piece ∷ pieces) response end is = is

reply_heads : (held : Held) (r : Reply) (more : List Answer) (s : State) → IsReplyOpen r s.writer.pieces → HeadsSo (sent_head held.head s) s.writer.pieces (reply_answer held r (given more s))
reply_heads held (replied.Written broken) more s is_open = written_heads (sent_head held.head s) s.writer.pieces (response_in held (replied.Written broken) s) (given more s) refl
reply_heads held (replied.Whole status content_type location body) more s none =
    no_head (sent_head held.head s) s.writer.pieces (reply_answer held (replied.Whole status content_type location body) (given more s)) none

pub reply_within : (held : Held) (r : Reply) (more : List Answer) (s : State) → IsReplyOpen r s.writer.pieces → GoesWithin held.head s (reply_answer held r (given more s))
reply_within held r more s is_open = (reply_grows held r more s, reply_heads held r more s is_open)

-- where memory ran out while a reply was written, its pages went no further than they go
pub replies_starve : (x : Opening) (pass : ℕ) (p : Start) (new : List Entry) (now : ℕ) (state : RequestState) (taken : Option (List ℕ)) (faults : ℕ) (reply : Reply) (replies : Replies x pass p new now state taken faults reply)
    → Starves x pass p new now state.writer.head replies.ran.after
replies_starve x pass p new now state taken faults reply replies = record {
  turns = replies.ran.turns;
  stops = whole_but_last replies.ran.turns replies.whole;
  did = replies.ran.did;
  asked = replies.ran.asked;
  ordered = replies.ran.stood.ordered;
  read = let r = replies.read in omega (arith, r);
  means = λ more. subst (GoesWithin state.writer.head replies.ran.after) (sym (replies.means more)) (reply_within state.writer reply more replies.ran.after replies.is_open);
}

module _ (x : Opening) (pass : ℕ) (old : Standing) (moments : Moments) (p : Start) (begun : HasBegun x pass old moments p) (new : List Entry) (now : ℕ) where
  -- under the tree and the session of its Begin
  meant_is : (answers : List Answer) → respond (paged_at (tree_at needs_at x p.begun)) p.request (session_found needs_at x p.request.cookie p.begun begun.begins.session) answers ≡ meant p answers
  meant_is answers =
      ap (λ tree. respond (paged_at tree) p.request (session_found needs_at x p.request.cookie p.begun begun.begins.session) answers) (sym begun.tree)
      ∙ ap (λ found. respond (paged_at p.tree) p.request found answers) (sym begun.found)

  read_is : (turns : List Turn) → p.steps + all_bytes p.tree turns ≡ old.steps + all_bytes (tree_at needs_at x p.begun) turns
  read_is turns = ap (λ steps. steps + all_bytes p.tree turns) begun.steps ∙ ap (λ tree. old.steps + all_bytes tree turns) begun.tree

  -- it was answered to its end
  pub answered : (turns : List Turn) (response : Response) (end : State) → list_all is_whole turns ≡ true → meant p (answers_of x.seed turns) ≡ responds response end → end.asked ≡ steps_of turns → end.answers ≡ []
      → HasDone needs_at x pass p.begun new (all_calls p.number turns ++ (op.End p.number (attrs_left end), reply.Ended) ∷ []) → now ≡ p.steps + all_bytes p.tree turns
      → Answers needs_at x pass p.request p.close old (wire (closing p.close response) p.shown) response.broken (standing_of new moments now)
  answered turns response end whole means asked used did read =
      answers_taken needs_at x pass p.request p.close old (wire (closing p.close response) p.shown) response.broken (standing_of new moments now) begun.takes
      (record {
        moment = begun.moment;
        told = begun.told;
        done = inl (record {
          begun = p.begun;
          begins = begun.begins;
          turns = turns;
          whole = whole;
          response = response;
          end = end;
          means = meant_is (answers_of x.seed turns) ∙ means;
          asked = asked;
          used = used;
          did = subst (λ n. HasDone needs_at x pass p.begun new (all_calls n turns ++ (op.End n (attrs_left end), reply.Ended) ∷ [])) begun.number did;
          read = read ∙ read_is turns;
          text_is = ap (wire (closing p.close response)) begun.shown;
          broken_is = refl;
        });
      })

  -- it was abandoned
  pub dropped : (turns : List Turn) (reached : State) (text : List ℕ) (head : Head) → are_whole_but_last turns ≡ true → reached.asked ≡ steps_of turns → IsOrdered reached → ((more : List Answer) → GoesWithin head reached (meant p (answers_of x.seed turns ++ more)))
      → HasDone needs_at x pass p.begun new (all_calls p.number turns ++ (op.Abandon p.number, reply.Dropped) ∷ []) → now ≤ p.steps + all_bytes p.tree turns
      → text ≡ dropped_text (sent_head head reached) p.close p.shown reached.writer.pieces → Drops needs_at x pass p.request p.close old text (standing_of new moments now)
  dropped turns reached text head stops asked ordered means did read text_is =
      drops_taken needs_at x pass p.request p.close old text (standing_of new moments now) begun.takes
      (record {
        moment = begun.moment;
        told = begun.told;
        done = inr (record {
          begun = p.begun;
          begins = begun.begins;
          turns = turns;
          whole = stops;
          reached = reached;
          asked = asked;
          ordered = ordered;
          means = λ more. subst (λ a. Grows reached (end_state a)) (sym (meant_is (answers_of x.seed turns ++ more))) (means more).0;
          did = subst (λ n. HasDone needs_at x pass p.begun new (all_calls n turns ++ (op.Abandon n, reply.Dropped) ∷ [])) begun.number did;
          read = subst (λ n. now ≤ n) (read_is turns) read;
          head = sent_head head reached;
          heads = λ more. subst (HeadsSo (sent_head head reached) reached.writer.pieces) (sym (meant_is (answers_of x.seed turns ++ more))) (means more).1;
          text_is = text_is ∙ ap (λ shown. dropped_text (sent_head head reached) p.close shown reached.writer.pieces) begun.shown;
        });
      })

  -- by its reply and its End
  pub replied_answer : (mid : List Entry) (state : RequestState) (taken : Option (List ℕ)) (faults : ℕ) (r : Reply) (replies : Replies x pass p mid now state taken faults r)
      → HasDone needs_at x pass mid new ((op.End p.number (unwrap_or state.scopes.session []), reply.Ended) ∷ [])
      → Answers needs_at x pass p.request p.close old (wire (closing p.close (response_in state.writer r replies.ran.after)) p.shown) (response_in state.writer r replies.ran.after).broken (standing_of new moments now)
  replied_answer mid state taken faults r replies ended =
      let ran = replies.ran in
      let attrs : unwrap_or state.scopes.session [] ≡ attrs_left (given [] ran.after) = ap (λ (scopes : ScopeState). unwrap_or scopes.session []) (sym ran.stood.scopes_are) in
      let calls = all_calls p.number ran.turns in
      answered ran.turns (response_in state.writer r ran.after) (given [] ran.after) replies.whole
      (ap (meant p) (sym (append-nil (answers_of x.seed ran.turns))) ∙ (replies.means [] ∙ reply_is state.writer r ran.after)) ran.asked refl
      (subst (λ attrs. HasDone needs_at x pass p.begun new (calls ++ (op.End p.number attrs, reply.Ended) ∷ [])) attrs
      (courses_join needs_at x pass p.begun mid new calls ((op.End p.number (unwrap_or state.scopes.session []), reply.Ended) ∷ []) ran.did ended)) replies.read

  -- by its Abandon
  pub starved_drop : (mid : List Entry) (reached : State) (text : List ℕ) (head : Head) → Starves x pass p mid now head reached → HasDone needs_at x pass mid new ((op.Abandon p.number, reply.Dropped) ∷ [])
      → text ≡ dropped_text (sent_head head reached) p.close p.shown reached.writer.pieces → Drops needs_at x pass p.request p.close old text (standing_of new moments now)
  starved_drop mid reached text head starves abandoned text_is =
      dropped starves.turns reached text head starves.stops starves.asked starves.ordered starves.means
      (courses_join needs_at x pass p.begun mid new (all_calls p.number starves.turns) ((op.Abandon p.number, reply.Dropped) ∷ []) starves.did abandoned) starves.read text_is
