-- A page with the targets of its forwards.
use Rattle.std.proofs.Common.{◌≡◌, ◌-◌, ◌<◌, ◌≤◌, ℕ, false, List, [], ◌++◌, sym, ap, subst, ◌∙◌, append_assoc, arith}
use Rattle.std.specs.Arc.{arc_value}
use Rattle.std.specs.Prelude.{IfOk, Result, Ok, Err}
use Rattle.http_in.specs.declared.params.Param.{Param}
use Rattle.http_in.specs.declared.request.Request.{Request}
use Rattle.http_out.specs.declared.status.Status.{Status}
use Rattle.out_buffer.specs.Held.{Held}
use Rattle.compiled_pages.specs.Pages.{paged_at}
use Rattle.page_meaning.proofs.Growing.{both}
use Rattle.page_meaning.specs.Context.{Served, good}
use Rattle.page_meaning.specs.Growth.{state_of}
use Rattle.page_meaning.specs.Page.{Page}
use Rattle.page_meaning.specs.Respond.{OnFault, first_run, run_answer, target_answer}
use Rattle.page_meaning.specs.Response.{Answered, end_state}
use Rattle.page_meaning.specs.State.{State}
use Rattle.request_pages.proofs.WithinLemmas.{within_none}
use Rattle.request_pages.specs.Chained.{Chained, ChainedSo, IsEndOpen, chain_answers, params_of}
use Rattle.request_pages.specs.PageEnd.{IsOpen}
use Rattle.request_pages.specs.Played.{Played}
use Rattle.request_pages.specs.Ready.{IsProgramIn}
use Rattle.request_pages.specs.Target.{IsTargetEnd, IsTargetReply, IsWhole}
use Rattle.request_pages.specs.Within.{GoesWithin}
use Rattle.request_pages.specs.declared.chain.ChainEnd.{ChainEnd}
use Rattle.request_pages.specs.declared.chain.ChainEnd.TheVariants as ended
use Rattle.request_pages.specs.declared.chain.Failure.{Failure}
use Rattle.request_pages.specs.declared.reply.PageEnd.TheVariants as page_end
use Rattle.request_pages.specs.declared.reply.Reply.{Reply}
use Rattle.request_pages.specs.declared.reply.Reply.TheVariants as reply
use Rattle.response_laws.specs.Laws.{ChainsUnfold, RunsGrowOn, chain_of, target_of}
use Rattle.run_world.proofs.Parts.{adds_given}
use Rattle.run_world.specs.Part.{given}
use Rattle.run_world.specs.Seats.{raise_of}
use Rattle.run_world.specs.declared.raised.Raise.{Raise}
use Rattle.site_words.specs.Law.{Answer}
use Rattle.source_tree.specs.declared.file.File.{File}

end_open : (r : Reply) (pieces : List (List ℕ)) → IsOpen (page_end.Done r) pieces → IsEndOpen (ended.Done r) pieces
end_open (reply.Written broken) pieces h = h
end_open (reply.Whole status content_type location body) pieces h = h

whole_open : (r : Reply) (pieces : List (List ℕ)) → IsWhole r → pieces ≡ [] → IsEndOpen (ended.Done r) pieces
whole_open (reply.Written broken) pieces h none = absurd h
whole_open (reply.Whole status content_type location body) pieces h none = none

module _ (unfolds : ChainsUnfold) (grow : RunsGrowOn) (served : Served) (status : Status) (page : Page) (params : List Param) (left : ℕ) (few : left ≤ 100) (request : Request) (tree : List File) (stands : State → Type 0) (s : State) (old new : List Answer)
    (depth : ℕ) (held : Held) where
  -- memory ran out while the page ran
  pub chained_short : {E F : Type 0} (e : E) (f : F) → Played served status page params left stands s old new depth held {E = E} (Err e) → Chained (chain_answers served status left page params) request tree stands s old new held {E = F} (Err f)
  chained_short e f played = record {
    got = played.got;
    replies = played.replies;
    after = played.after;
    stood = played.stood;
    ends = λ at_fault faults future.
        let from = given (played.got ++ future) s in
        subst (GoesWithin held.head played.after) (sym (unfolds served at_fault status left page params from few)) (
          both played.after (state_of (first_run served left page params from)) (end_state (run_answer (target_of served at_fault status) at_fault status page params (first_run served left page params from))) (played.ends future).0
              (grow.behind served at_fault status left page params from faults),
          (played.ends future).1 (target_of served at_fault status) at_fault,
        );
  }

  -- the page answers
  pub chained_done : {E F : Type 0} (r : Reply) → Played served status page params left stands s old new depth held {E = E} (Ok (page_end.Done r)) → Chained (chain_answers served status left page params) request tree stands s old new held {E = F} (Ok (ended.Done r))
  chained_done r played =
      let l = played.ends.0 in
      let none = played.ends.2 in
      let answers = played.ends.3 in
      record {
        got = played.got;
        replies = played.replies;
        after = played.after;
        stood = played.stood;
        ends = (page, tt, end_open r played.after.writer.pieces none, λ at_fault future. unfolds served at_fault status left page params (given (played.got ++ future) s) few ∙ answers (target_of served at_fault status) at_fault future);
      }

  -- a fault ended its run
  pub chained_failed : {E F : Type 0} (raise : Raise) (failure : Failure) → failure.raise ≡ raise → params ≡ params_of request failure.own → IsProgramIn (arc_value failure.program) tree page
      → Played served status page params left stands s old new depth held {E = E} (Ok (page_end.Failed raise)) → Chained (chain_answers served status left page params) request tree stands s old new held {E = F} (Ok (ended.Failed failure))
  chained_failed raise failure is own made played =
      let l = played.ends.0 in
      let none = played.ends.2 in
      let answers = played.ends.3 in
      record {
        got = played.got;
        replies = played.replies;
        after = played.after;
        stood = played.stood;
        ends = (
          page,
          made,
          none,
          λ at_fault future.
              unfolds served at_fault status left page params (given (played.got ++ future) s) few
              ∙ (answers (target_of served at_fault status) at_fault future
              ∙ (ap (λ p. at_fault page p (raise_of raise) (given future played.after)) own ∙ ap (λ r. at_fault page (params_of request failure.own) (raise_of r) (given future played.after)) (sym is))),
        );
      }

  -- memory ran out before its target was told
  pub chained_lost : {E F : Type 0} (path : List ℕ) (more : List Param) (f : F) → Played served status page params left stands s old new depth held {E = E} (Ok (page_end.Forward path more))
      → Chained (chain_answers served status left page params) request tree stands s old new held {E = F} (Err f)
  chained_lost path more f played =
      let l = played.ends.0 in
      let none = played.ends.2 in
      let answers = played.ends.3 in
      record {
        got = played.got;
        replies = played.replies;
        after = played.after;
        stood = played.stood;
        ends = λ at_fault faults future.
            subst (GoesWithin held.head played.after) (sym (unfolds served at_fault status left page params (given (played.got ++ future) s) few ∙ answers (target_of served at_fault status) at_fault future))
            (within_none held.head played.after (target_of served at_fault status path more l (given future played.after)) none
            (adds_given future played.after (end_state (target_of served at_fault status path more l (given future played.after))) (grow.target served at_fault status path more l (given future played.after) faults none)));
      }

  -- its target is no page
  pub chained_told : {E F : Type 0} (path : List ℕ) (more : List Param) (r : Reply) → ((p : List ℕ) → served.pages p ≡ paged_at tree p) → IsTargetReply tree status path r
      → Played served status page params left stands s old new depth held {E = E} (Ok (page_end.Forward path more)) → Chained (chain_answers served status left page params) request tree stands s old new held {E = F} (Ok (ended.Done r))
  chained_told path more r pages told played =
      let l = played.ends.0 in
      let none = played.ends.2 in
      let answers = played.ends.3 in
      record {
        got = played.got;
        replies = played.replies;
        after = played.after;
        stood = played.stood;
        ends = (
          page,
          tt,
          whole_open r played.after.writer.pieces told.whole none,
          λ at_fault future.
              let run : Page → State → Answered = λ p s1. chain_of served at_fault status l p more s1 in
              unfolds served at_fault status left page params (given (played.got ++ future) s) few
              ∙ (answers (target_of served at_fault status) at_fault future
              ∙ (ap (λ p. target_answer run status path p (given future played.after)) (pages path) ∙ told.answers run held (given future played.after))),
        );
      }

  -- its target is no page: what is told of it, unless memory ran out
  pub chained_end : {E F : Type 0} (path : List ℕ) (more : List Param) (result : Result ChainEnd F) → ((p : List ℕ) → served.pages p ≡ paged_at tree p) → IfOk result (IsTargetEnd tree status path)
      → Played served status page params left stands s old new depth held {E = E} (Ok (page_end.Forward path more)) → Chained (chain_answers served status left page params) request tree stands s old new held result
  chained_end path more (Ok (ended.Done r)) pages told played = chained_told path more r pages told played
  chained_end path more (Ok (ended.Failed failure)) pages told played = absurd told
  chained_end path more (Err f) pages told played = chained_lost path more f played

-- its target is a page, which runs in its place
pub chained_on : {E F : Type 0} → ChainsUnfold → (served : Served) (status : Status) (page : Page) (params : List Param) (left : ℕ) → left ≤ 100 → (request : Request) (tree : List File) (stood stands : State → Type 0) (s : State) (old mid new : List Answer) (depth : ℕ) (held later : Held)
    (path : List ℕ) (more : List Param) (next : Page) (levels : ℕ) (result : Result ChainEnd F) → served.pages path ≡ good next → (played : Played served status page params left stood s old mid depth held {E = E} (Ok (page_end.Forward path more)))
    → played.ends.0 ≡ levels → Chained (chain_answers served status levels next more) request tree stands played.after mid new later result
    → Chained (chain_answers served status left page params) request tree stands s old new later result
chained_on {F = F} unfolds served status page params left few request tree stood stands s old mid new depth held later path more next levels result is played same chained = record {
  got = played.got ++ chained.got;
  replies = chained.replies ∙ (ap (λ l. l ++ chained.got) played.replies ∙ append_assoc old played.got chained.got);
  after = chained.after;
  stood = chained.stood;
  ends = so result chained.ends;
}
  where
    goes : (at_fault : OnFault) (future : List Answer)
        → chain_of served at_fault status left page params (given ((played.got ++ chained.got) ++ future) s) ≡ chain_of served at_fault status levels next more (given (chained.got ++ future) played.after)
    goes at_fault future =
        let l = played.ends.0 in
        let none = played.ends.2 in
        let answers = played.ends.3 in
        ap (λ a. chain_of served at_fault status left page params (given a s)) (append_assoc played.got chained.got future)
        ∙ (unfolds served at_fault status left page params (given (played.got ++ (chained.got ++ future)) s) few
        ∙ (answers (target_of served at_fault status) at_fault (chained.got ++ future)
        ∙ (ap (λ p. target_answer (λ p s1. chain_of served at_fault status l p more s1) status path p (given (chained.got ++ future) played.after)) is
        ∙ ap (λ k. chain_of served at_fault status k next more (given (chained.got ++ future) played.after)) same)))

    so : (result : Result ChainEnd F) → ChainedSo (λ at_fault future. chain_answers served status levels next more at_fault (chained.got ++ future) played.after) request tree later chained.after result
        → ChainedSo (λ at_fault future. chain_answers served status left page params at_fault ((played.got ++ chained.got) ++ future) s) request tree later chained.after result
    so (Ok end) (last, made, none, answers) = (last, made, none, λ at_fault future. goes at_fault future ∙ answers at_fault future)
    so (Err e) short = λ at_fault faults future. subst (GoesWithin later.head chained.after) (sym (goes at_fault future)) (short at_fault faults future)

-- so many levels are left where the target is as deep as that
pub levels_left : (l left : ℕ) → l < left → left ≤ 100 → 100 - (100 - l) ≡ l
levels_left l left less few = omega (arith, less, few)

-- the same of a tree and a request that are told to be the same
pub same_chained : {F : Type 0} (served other : Served) (status : Status) (left : ℕ) (page : Page) (params : List Param) (request : Request) (tree later : List File) (stands : State → Type 0) (s : State) (old new : List Answer) (held : Held) (result : Result ChainEnd F)
    → other ≡ served → later ≡ tree → Chained (chain_answers other status left page params) request later stands s old new held result → Chained (chain_answers served status left page params) request tree stands s old new held result
same_chained served other status left page params request tree later stands s old new held result same is chained =
    subst (λ x. Chained (chain_answers x status left page params) request tree stands s old new held result) same (subst (λ t. Chained (chain_answers other status left page params) request t stands s old new held result) is chained)

-- what is known where a page ended by a forward: its levels, its depth, and that nothing was committed
pub forward_known : {E : Type 0} (served : Served) (status : Status) (page : Page) (params : List Param) (left : ℕ) (stands : State → Type 0) (s : State) (old new : List Answer) (depth : ℕ) (held : Held) (path : List ℕ) (more : List Param)
    (played : Played served status page params left stands s old new depth held {E = E} (Ok (page_end.Forward path more)))
    → (played.ends.0 < left) × (depth ≡ 100 - played.ends.0) × (played.after.writer.pieces ≡ [])
forward_known served status page params left stands s old new depth held path more played = let target = played.ends.1 in (target.0, target.1, played.ends.2)

pub none_held : (held : Held) (writer : Rattle.out_buffer.specs.Writer.Writer) → held.committed ≡ Rattle.out_buffer.specs.Writer.has_committed writer → writer.pieces ≡ [] → held.committed ≡ false
none_held held writer is none = is ∙ ap Rattle.out_buffer.specs.Writer.has_pieces none
