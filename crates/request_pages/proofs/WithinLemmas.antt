-- How far a request came for which memory ran out, by the run of its page.
use Rattle.std.proofs.Common.{◌≡◌, ℕ, Bool, true, false, List, [], ◌∷◌, ◌++◌, Option, Some, None, refl, sym, ap, subst, ◌∙◌}
use Rattle.std.specs.Prelude.{if◌then◌else◌}
use Rattle.edges.specs.History.{IsFront}
use Rattle.http_in.specs.declared.params.Param.{Param}
use Rattle.http_out.specs.declared.head.Head.{Head}
use Rattle.http_out.specs.declared.status.Status.{Status}
use Rattle.out_buffer.specs.Writer.{has_committed, has_pieces}
use Rattle.request_port.proofs.HeadLemmas.{no_head}
use Rattle.request_port.specs.Dropped.{HeadsSo}
use Rattle.page_meaning.proofs.Growing.{uncommitted}
use Rattle.page_meaning.specs.Faults.{Raise}
use Rattle.page_meaning.specs.Growth.{Grows, Leaves, state_of}
use Rattle.page_meaning.specs.Page.{Page}
use Rattle.page_meaning.specs.Respond.{OnFault, run_answer}
use Rattle.page_meaning.specs.Response.{Answered, end_state, head_of, new_id, page_response}
use Rattle.page_meaning.specs.State.{State}
use Rattle.page_meaning.specs.Went.{Did, Well, Raised, Ended, Awaits, forwards, redirects}
use Rattle.request_pages.specs.Within.{GoesWithin, sent_head}

-- where nothing was committed no head was sent
pub within_none : (head : Head) (reached : State) (answered : Answered) → reached.writer.pieces ≡ [] → Grows reached (end_state answered) → GoesWithin head reached answered
within_none head reached answered none grows = (grows, no_head (sent_head head reached) reached.writer.pieces answered none)

-- pieces with a first one are no front of none
front_there : (piece : List ℕ) (pieces whole : List (List ℕ)) → IsFront (piece ∷ pieces) whole → whole ≡ [] → ⊥
front_there piece pieces whole front none = let e : [] ≡ piece ∷ (pieces ++ front.0) = sym none ∙ front.1 in cc

module _ (target : List ℕ → List Param → ℕ → State → Answered) (at_fault : OnFault) (status : Status) (page : Page) (params : List Param) (reached : State) (piece : List ℕ) (pieces : List (List ℕ)) (is : reached.writer.pieces ≡ piece ∷ pieces) where
  abbrev page_head : State → Head
  page_head s = head_of status (Some page.settings.content_type) None s

  -- behind a commit the head names the session that it named
  same_head : (s : State) → Grows reached s → page_head s ≡ page_head reached
  same_head s grows =
      ap (λ (session : Option (List ℕ) × Bool). record {
        status = status;
        content_type = Some page.settings.content_type;
        set_cookie = new_id session.1 session.0;
        location = None;
        allow = false;
        close = false;
      }) (grows.session (ap has_pieces is))

  no_front : (s : State) → Grows reached s → s.writer.pieces ≡ [] → ⊥
  no_front s grows none = front_there piece pieces s.writer.pieces (subst (λ (l : List (List ℕ)). IsFront l s.writer.pieces) is grows.pieces) none

  raised_heads : (b : Bool) (r : Raise) (s : State) → has_committed s.writer ≡ b → Grows reached s → HeadsSo (page_head reached) (piece ∷ pieces) (if b then page_response status page true s else at_fault page params r s)
  raised_heads true r s is grows = same_head s grows
  raised_heads false r s is grows = absurd (no_front s grows (uncommitted s.writer.pieces is))

  -- what answers behind pieces that the page committed has its head
  committed_heads : (left : ℕ) (d : Did) → Leaves left d → Grows reached (state_of d) → HeadsSo (page_head reached) (piece ∷ pieces) (run_answer target at_fault status page params d)
  committed_heads left (Well u s) leaves grows = same_head s grows
  committed_heads left (Raised fault place s) leaves grows = raised_heads (has_committed s.writer) (record { fault = fault; place = place }) s refl grows
  committed_heads left (Ended (forwards path more l) s) leaves grows = absurd (no_front s grows leaves.1)
  committed_heads left (Ended (redirects location) s) leaves grows = absurd (no_front s grows leaves)
  committed_heads left (Awaits step s) leaves grows = tt

-- so has what answers behind a page's run that went on
pub run_heads : (target : List ℕ → List Param → ℕ → State → Answered) (at_fault : OnFault) (status : Status) (page : Page) (params : List Param) (reached : State) (left : ℕ) (d : Did) → Leaves left d → Grows reached (state_of d)
    → HeadsSo (head_of status (Some page.settings.content_type) None reached) reached.writer.pieces (run_answer target at_fault status page params d)
run_heads target at_fault status page params reached left d leaves grows = go reached.writer.pieces refl
  where
    go : (pieces : List (List ℕ)) → reached.writer.pieces ≡ pieces → HeadsSo (head_of status (Some page.settings.content_type) None reached) pieces (run_answer target at_fault status page params d)
    go [] is = tt
    go (piece ∷ pieces) is = committed_heads target at_fault status page params reached piece pieces is left d leaves grows
