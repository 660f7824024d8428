-- What a request's page is answered.
use Rattle.std.proofs.Common.{◌≡◌, List, [], ◌++◌, refl, sym, ap, subst, ◌∙◌, append_assoc}
use Rattle.std.specs.Arc.{arc_value}
use Rattle.std.specs.Prelude.{Result, Ok, Err}
use Rattle.http_in.specs.declared.params.Param.{Param}
use Rattle.http_in.specs.declared.request.Request.{Request}
use Rattle.http_out.specs.declared.status.Status.TheVariants as status_is
use Rattle.out_buffer.specs.Held.{Held}
use Rattle.page_meaning.specs.Context.{Served}
use Rattle.page_meaning.specs.Page.{Page}
use Rattle.page_meaning.specs.Respond.{OnFault, level_limit, on_fault}
use Rattle.page_meaning.specs.Response.{Answered}
use Rattle.page_meaning.specs.State.{State}
use Rattle.request_pages.proofs.CloseLemmas.{done_open}
use Rattle.request_pages.specs.Chained.{Chained, chain_answers, params_of}
use Rattle.request_pages.specs.Closed.{Closed, ClosedSo, fault_answers, first_answers}
use Rattle.request_pages.specs.Ready.{IsProgramIn}
use Rattle.request_pages.specs.declared.chain.ChainEnd.TheVariants as ended
use Rattle.request_pages.specs.declared.chain.Failure.{Failure}
use Rattle.request_pages.specs.declared.reply.Reply.{Reply}
use Rattle.request_pages.specs.Within.{GoesWithin}
use Rattle.response_laws.specs.Laws.{RunsGrowOn}
use Rattle.run_world.specs.Seats.{raise_of}
use Rattle.site_words.specs.Law.{Answer}
use Rattle.source_tree.specs.declared.file.File.{File}

-- a request's page is answered by its chain from the first level on
first_chained : (served : Served) (page : Page) (params : List Param) (future : List Answer) (s : State) → first_answers served page params future s ≡ chain_answers served status_is.Ok 100 page params (on_fault served) future s
unfolding level_limit
first_chained served page params future s = refl

-- what is known where a chain ended by a fault: whose program it is, and that nothing was committed
pub failed_known : {E : Type 0} (failure : Failure) (answers : OnFault → List Answer → State → Answered) (request : Request) (tree : List File) (stands : State → Type 0) (s : State) (old new : List Answer) (held : Held)
    (chained : Chained answers request tree stands s old new held {E = E} (Ok (ended.Failed failure)))
    → IsProgramIn (arc_value failure.program) tree chained.ends.0 × (chained.after.writer.pieces ≡ [])
failed_known failure answers request tree stands s old new held chained = (chained.ends.1, chained.ends.2)

-- memory ran out while the page ran
pub first_lost : {E F : Type 0} (e : E) (f : F) → RunsGrowOn → (served : Served) (page : Page) (request : Request) (tree : List File) (ran stands : State → Type 0) (s : State) (old new : List Answer) (held : Held) → ((t : State) → ran t → stands t)
    → Chained (chain_answers served status_is.Ok 100 page request.params) request tree ran s old new held {E = E} (Err e) → Closed (first_answers served page request.params) stands s old new held {E = F} (Err f)
first_lost e f grow served page request tree ran stands s old new held goes chained = record {
  got = chained.got;
  replies = chained.replies;
  after = chained.after;
  stood = goes chained.after chained.stood;
  ends = λ future. subst (GoesWithin held.head chained.after) (sym (first_chained served page request.params (chained.got ++ future) s)) (chained.ends (on_fault served) (grow.error served) future);
}

-- the page answers
pub first_done : {E F : Type 0} (answer : Reply) (served : Served) (page : Page) (request : Request) (tree : List File) (ran stands : State → Type 0) (s : State) (old new : List Answer) (held : Held) → ((t : State) → ran t → stands t)
    → Chained (chain_answers served status_is.Ok 100 page request.params) request tree ran s old new held {E = E} (Ok (ended.Done answer)) → Closed (first_answers served page request.params) stands s old new held {E = F} (Ok answer)
first_done answer served page request tree ran stands s old new held goes chained =
    let opened = chained.ends.2 in
    let answers = chained.ends.3 in
    record {
      got = chained.got;
      replies = chained.replies;
      after = chained.after;
      stood = goes chained.after chained.stood;
      ends = (done_open answer chained.after.writer.pieces opened, λ future. first_chained served page request.params (chained.got ++ future) s ∙ answers (on_fault served) future);
    }

-- a fault ended the page's run, and was answered
pub first_failed : {E F : Type 0} (failure : Failure) (served other : Served) (page : Page) (request : Request) (tree : List File) (ran stands : State → Type 0) (s : State) (old mid new : List Answer) (held later : Held) (result : Result Reply F) → other ≡ served
    → (chained : Chained (chain_answers served status_is.Ok 100 page request.params) request tree ran s old mid held {E = E} (Ok (ended.Failed failure)))
    → Closed (fault_answers other chained.ends.0 (params_of request failure.own) (raise_of failure.raise)) stands chained.after mid new later result → Closed (first_answers served page request.params) stands s old new later result
first_failed {F = F} failure served other page request tree ran stands s old mid new held later result same chained closed = record {
  got = chained.got ++ closed.got;
  replies = closed.replies ∙ (ap (λ l. l ++ closed.got) chained.replies ∙ append_assoc old chained.got closed.got);
  after = closed.after;
  stood = closed.stood;
  ends = so result closed.ends;
}
  where
    goes : (future : List Answer)
        → first_answers served page request.params ((chained.got ++ closed.got) ++ future) s ≡ fault_answers other chained.ends.0 (params_of request failure.own) (raise_of failure.raise) (closed.got ++ future) chained.after
    goes future =
        let last = chained.ends.0 in
        let answers = chained.ends.3 in
        first_chained served page request.params ((chained.got ++ closed.got) ++ future) s
        ∙ (ap (λ a. chain_answers served status_is.Ok 100 page request.params (on_fault served) a s) (append_assoc chained.got closed.got future)
        ∙ (answers (on_fault served) (closed.got ++ future)
        ∙ ap (λ x. fault_answers x last (params_of request failure.own) (raise_of failure.raise) (closed.got ++ future) chained.after) (sym same)))

    so : (result : Result Reply F) → ClosedSo (λ future. fault_answers other chained.ends.0 (params_of request failure.own) (raise_of failure.raise) (closed.got ++ future) chained.after) later closed.after result
        → ClosedSo (λ future. first_answers served page request.params ((chained.got ++ closed.got) ++ future) s) later closed.after result
    so (Ok r) (opened, answers) = (opened, λ future. goes future ∙ answers future)
    so (Err e) short = λ future. subst (GoesWithin later.head closed.after) (sym (goes future)) (short future)

-- the same of a tree and an error page's fault that are told to be the same
pub same_first : {E : Type 0} (served other : Served) (page : Page) (params : List Param) (stands : State → Type 0) (s : State) (old new : List Answer) (held : Held) (result : Result Reply E) → other ≡ served
    → Closed (first_answers other page params) stands s old new held result → Closed (first_answers served page params) stands s old new held result
same_first served other page params stands s old new held result same closed = subst (λ x. Closed (first_answers x page params) stands s old new held result) same closed
