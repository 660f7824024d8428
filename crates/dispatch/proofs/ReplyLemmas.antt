-- The bytes of a reply, and what a sink takes of them.
use Rattle.std.proofs.Common.{◌≡◌, ◌<◌, ℕ, Bool, true, false, List, [], ◌∷◌, Option, None, refl, sym, ap, subst, ◌∙◌, arith}
use Rattle.std.specs.Prelude.{Result}
use Rattle.conversation.specs.declared.desk.Outcome.{Outcome}
use Rattle.dispatch.specs.Replied.{Wrote, response_in}
use Rattle.http_out.specs.Response.{whole, wire}
use Rattle.http_out.specs.declared.head.Head.{Head}
use Rattle.http_out.specs.declared.status.Status.{Status}
use Rattle.out_buffer.specs.Held.{Held, response_of}
use Rattle.out_buffer.specs.Streamed.{HasTaken, so_far}
use Rattle.page_meaning.specs.Response.{closing, head_of, new_id, rest_of}
use Rattle.page_meaning.specs.State.{State}
use Rattle.request_pages.specs.Closed.{IsReplyOpen, Reached}
use Rattle.request_pages.specs.Headed.{IsHeaded}
use Rattle.request_pages.specs.declared.reply.Reply.{Reply}
use Rattle.request_pages.specs.declared.reply.Reply.TheVariants as reply
use Rattle.run_world.specs.Origin.{Origin}
use Rattle.run_world.specs.declared.around.Around.{Around}
use Rattle.scopes.specs.Scopes.{ScopeState}
use Rattle.site_words.specs.Running.{Asking}

-- behind a commit the rest of a response that breaks off doesn't count
rest_left_out : (head : Head) (pieces : List (List ℕ)) (buffer : List ℕ) (broken shown : Bool) → (pieces ≡ [] → broken ≡ false)
    → wire (record { head = head; pieces = pieces; rest = buffer; broken = broken }) shown ≡ wire (record { head = head; pieces = pieces; rest = rest_of broken buffer; broken = broken }) shown
rest_left_out head pieces buffer false shown is_open = refl
rest_left_out head [] buffer true shown is_open = absurd (let no : true ≡ false = is_open refl in cc)
rest_left_out head (piece ∷ pieces) buffer true shown is_open = refl

-- where no piece was committed, the sink has taken nothing, and hasn't failed
none_taken : (start : Option (List ℕ)) (before : ℕ) (head : Head) (shown : Bool) (pieces : List (List ℕ)) (failed : Bool) (taken : Option (List ℕ)) (faults : ℕ) → pieces ≡ []
    → HasTaken start before (so_far head shown pieces) failed taken faults → HasTaken start before [] false taken faults
none_taken start before head shown (piece ∷ pieces) failed taken faults none was = absurd (cc)
none_taken start before head shown [] false taken faults none was = was
none_taken start before head shown [] true taken faults none was = absurd (let no : was.sent.0 < 0 = was.sent.1 in omega arith)

module _ {origin : Origin} {scopes : ScopeState} {held : Held} {taken : Option (List ℕ)} {faults : ℕ} {around : Around} {asking : Asking} {s : State} {close shown : Bool} (reached : Reached origin scopes held taken faults around asking s) (headed : IsHeaded close shown around held) where
  -- nothing was written of a reply of which nothing was committed
  pub unwritten : s.writer.pieces ≡ [] → HasTaken origin.start origin.before [] false taken faults
  unwritten none = none_taken origin.start origin.before held.head held.shown s.writer.pieces held.failed taken faults none reached.writer.streamed

  -- the head of what the writer holds names the session of the state
  pub head_is : held.head ≡ record (head_of held.head.status held.head.content_type None s) { close = close }
  head_is = rw (headed.head, reached.id, reached.fresh) refl

  written_text : (r : Reply) (broken : Bool) → r ≡ reply.Written broken → IsReplyOpen r s.writer.pieces → wire (response_of held.head s.writer broken) held.shown ≡ wire (closing close (response_in held r s)) shown
  written_text r broken is is_open =
      let stays : s.writer.pieces ≡ [] → broken ≡ false = rw is at is_open in
      rw (is, headed.shown_is)
      (rest_left_out held.head s.writer.pieces s.writer.buffer broken shown stays
      ∙ ap (λ head. wire (record { head = head; pieces = s.writer.pieces; rest = rest_of broken s.writer.buffer; broken = broken }) shown) head_is)

  -- what was written of what the writer held was written of the reply
  pub wrote_written : {E : Type 0} (r : Reply) (broken : Bool) → r ≡ reply.Written broken → IsReplyOpen r s.writer.pieces → (now : Option (List ℕ)) (risen : ℕ) (result : Result Outcome E)
      → Wrote origin.start origin.before (wire (response_of held.head s.writer broken) held.shown) broken s.writer.pieces now risen result
      → Wrote origin.start origin.before (wire (closing close (response_in held r s)) shown) (response_in held r s).broken s.writer.pieces now risen result
  wrote_written r broken is is_open now risen result wrote =
      let text = wire (closing close (response_in held r s)) shown in
      subst (λ b. Wrote origin.start origin.before text b s.writer.pieces now risen result) (sym (ap (λ (r : Reply). (response_in held r s).broken) is))
      (subst (λ text. Wrote origin.start origin.before text broken s.writer.pieces now risen result) (written_text r broken is is_open) wrote)

  whole_text : (r : Reply) (status : Status) (content_type location : Option (List ℕ)) (body bytes : List ℕ) (id : Option (List ℕ)) → r ≡ reply.Whole status content_type location body → bytes ≡ body → id ≡ new_id around.fresh around.id
      → whole (record { status = status; content_type = content_type; set_cookie = id; location = location; allow = false; close = close }) bytes shown ≡ wire (closing close (response_in held r s)) shown
  unfolding whole
  whole_text r status content_type location body bytes id is bytes_are id_is = rw (is, reached.id, reached.fresh) (rw (bytes_are, id_is) refl)

  -- what was written of a body with its head was written of the reply
  pub wrote_whole : {E : Type 0} (r : Reply) (status : Status) (content_type location : Option (List ℕ)) (body bytes : List ℕ) (id : Option (List ℕ)) → r ≡ reply.Whole status content_type location body → bytes ≡ body
      → id ≡ new_id around.fresh around.id → s.writer.pieces ≡ [] → (now : Option (List ℕ)) (risen : ℕ) (result : Result Outcome E)
      → Wrote origin.start origin.before (whole (record { status = status; content_type = content_type; set_cookie = id; location = location; allow = false; close = close }) bytes shown) false [] now risen result
      → Wrote origin.start origin.before (wire (closing close (response_in held r s)) shown) (response_in held r s).broken s.writer.pieces now risen result
  wrote_whole r status content_type location body bytes id is bytes_are id_is none now risen result wrote =
      let text = wire (closing close (response_in held r s)) shown in
      subst (λ b. Wrote origin.start origin.before text b s.writer.pieces now risen result) (sym (ap (λ (r : Reply). (response_in held r s).broken) is))
      (subst (λ (pieces : List (List ℕ)). Wrote origin.start origin.before text false pieces now risen result) (sym none)
      (subst (λ text. Wrote origin.start origin.before text false [] now risen result) (whole_text r status content_type location body bytes id is bytes_are id_is) wrote))
