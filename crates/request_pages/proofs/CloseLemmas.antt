-- What a fault that ended a page's run is answered.
use Rattle.std.proofs.Common.{◌≡◌, ◌⊎◌, inl, inr, if◌then◌else◌, ℕ, Bool, true, false, List, [], ◌∷◌, ◌++◌, Option, Some, None, refl, sym, ap, subst, ◌∙◌, append-nil, codes}
use Rattle.std.specs.Prelude.{Result, Ok, Err, IfOk}
use Rattle.http_in.specs.declared.params.Param.{Param}
use Rattle.http_in.specs.declared.request.Request.{Request}
use Rattle.http_out.specs.declared.status.Status.{Status}
use Rattle.http_out.specs.declared.status.Status.TheVariants as status_is
use Rattle.out_buffer.specs.Held.{Held}
use Rattle.run_pages.specs.Run.{StandsFor}
use Rattle.compiled_pages.proofs.PageLemmas.{page_there}
use Rattle.compiled_pages.specs.Made.{IsPageAt, IsProgramOf}
use Rattle.compiled_pages.specs.Pages.{found_as, paged_at}
use Rattle.page_meaning.proofs.Growing.{quiet}
use Rattle.page_meaning.specs.Context.{Paged, Served, bad, good}
use Rattle.page_meaning.specs.Faults.{Raise, run_fault_line}
use Rattle.page_meaning.specs.Growth.{Grows}
use Rattle.page_meaning.specs.Page.{Page}
use Rattle.page_meaning.specs.Respond.{error_answer, error_at, error_path, first_fault, level_limit, with_exception, with_no_visits}
use Rattle.page_meaning.specs.Response.{Answered, end_state, responds, head_of}
use Rattle.page_meaning.specs.State.{State}
use Rattle.page_meaning.specs.Work.{fetched}
use Rattle.pg_text.specs.declared.place.PageFault.{PageFault}
use Rattle.request_pages.proofs.LookLemmas.{page_stands, quiet_stands}
use Rattle.request_pages.proofs.WithinLemmas.{within_none}
use Rattle.request_pages.specs.Chained.{Chained, IsEndOpen, chain_answers}
use Rattle.request_pages.specs.Closed.{Closed, ClosedSo, IsReplyOpen, Reached, fault_answers}
use Rattle.request_pages.specs.declared.chain.ChainEnd.TheVariants as ended
use Rattle.request_pages.specs.declared.chain.Failure.{Failure}
use Rattle.request_pages.specs.declared.reply.Reply.{Reply}
use Rattle.request_pages.specs.declared.reply.Reply.TheVariants as reply
use Rattle.request_pages.specs.Within.{GoesWithin}
use Rattle.response_laws.specs.Laws.{RunsGrowOn}
use Rattle.run_world.proofs.Parts.{adds_given}
use Rattle.run_world.specs.Origin.{Origin}
use Rattle.run_world.specs.Part.{given}
use Rattle.run_world.specs.declared.around.Around.{Around}
use Rattle.run_world.specs.declared.program.Program.{Program}
use Rattle.run_world.specs.declared.raised.Raise.{Raise as MachineRaise}
use Rattle.scopes.specs.Scopes.{ScopeState}
use Rattle.site_words.specs.Law.{Answer}
use Rattle.site_words.specs.PageSteps.{fetch, page_charge}
use Rattle.site_words.specs.Running.{Asking, HasLooked, IsPageFile, is_page, look_steps}
use Rattle.source_tree.specs.Edits.{file_at}
use Rattle.source_tree.specs.declared.file.File.{File}

-- the program of a page has its path
pub path_same : (program : Program) (tree : List File) (path : List ℕ) (page : Page) → IsProgramOf program tree path → IsPageAt page tree path → program.path ≡ page.path
path_same program tree path page made is =
    let same : made.page ≡ page = let a = made.stands in cc in
    ap (λ p. p.path) made.lowered ∙ ap (λ p. p.path) same

pub reached : (origin : Origin) (scopes : ScopeState) (held : Held) (taken : Option (List ℕ)) (faults : ℕ) (around : Around) (asking : Asking) (s : State) → StandsFor origin scopes held taken faults around asking s
    → Reached origin scopes held taken faults around asking s
reached origin scopes held taken faults around asking s h = record { scopes_are = h.scopes; asked = h.asked; ordered = h.ordered; writer = h.writer; id = h.id; fresh = h.fresh }

-- a look changes only the charge
pub reached_looked : (origin : Origin) (scopes : ScopeState) (held : Held) (taken : Option (List ℕ)) (faults : ℕ) (old new : Around) (asking : Asking) (s : State) → new ≡ record old { charge = new.charge } → Reached origin scopes held taken faults old asking s
    → Reached origin scopes held taken faults new asking s
reached_looked origin scopes held taken faults old new asking s same h = record {
  scopes_are = h.scopes_are;
  asked = h.asked;
  ordered = h.ordered;
  writer = h.writer;
  id = h.id ∙ ap (λ (a : Around). a.id) (sym same);
  fresh = h.fresh ∙ ap (λ (a : Around). a.fresh) (sym same);
}

-- the same of what follows of what stands
pub closed_as : {E : Type 0} (answers : List Answer → State → Answered) (ran stands : State → Type 0) (s : State) (old new : List Answer) (held : Held) (result : Result Reply E) → ((t : State) → ran t → stands t) → Closed answers ran s old new held result
    → Closed answers stands s old new held result
closed_as answers ran stands s old new held result goes closed = record { got = closed.got; replies = closed.replies; after = closed.after; stood = goes closed.after closed.stood; ends = closed.ends }

pub plain_grows : (after : State) (future : List Answer) → Grows after (given future after)
plain_grows after future = quiet after (given future after) refl refl refl

-- a whole reply closes what is answered so
pub closed_whole : {E : Type 0} (answers : List Answer → State → Answered) (stands : State → Type 0) (s after : State) (old new : List Answer) (held : Held) (status : Status) (content_type location : Option (List ℕ)) (body : List ℕ) (result : Result Reply E)
    → new ≡ old → stands after → after.writer.pieces ≡ [] → IfOk result (λ r. r ≡ reply.Whole status content_type location body)
    → ((future : List Answer) → answers future s ≡ responds (record { head = head_of status content_type location after; pieces = []; rest = body; broken = false }) (given future after))
    → Closed answers stands s old new held result
closed_whole {E = E} answers stands s after old new held status content_type location body result same stood none told says = record {
  got = [];
  replies = same ∙ sym (append-nil old);
  after = after;
  stood = stood;
  ends = ends result told;
}
  where
    ends : (result : Result Reply E) → IfOk result (λ r. r ≡ reply.Whole status content_type location body) → ClosedSo (λ future. answers ([] ++ future) s) held after result
    ends (Ok r) is = subst (λ x. ClosedSo {E = E} (λ future. answers future s) held after (Ok x)) (sym is) (none, says)
    ends (Err e) is = λ future.
        let answered = responds (record { head = head_of status content_type location after; pieces = []; rest = body; broken = false }) (given future after) in
        subst (GoesWithin held.head after) (sym (says future)) (within_none held.head after answered none (plain_grows after future))

-- what a fault is answered adds to the steps asked and the pieces committed
fault_grows : RunsGrowOn → (served : Served) (page : Page) (params : List Param) (r : Raise) (s : State) → s.writer.pieces ≡ [] → (future : List Answer) → Grows s (end_state (fault_answers served page params r future s))
fault_grows grow served page params r s none future = adds_given future s (end_state (fault_answers served page params r future s)) (grow.error served page params r (given future s) none)

-- where memory ran out nothing more was done
pub closed_short : {E : Type 0} → RunsGrowOn → (served : Served) (page : Page) (params : List Param) (r : Raise) (stands : State → Type 0) (s : State) (old new : List Answer) (held : Held) (e : E) → new ≡ old → stands s → s.writer.pieces ≡ []
    → Closed (fault_answers served page params r) stands s old new held {E = E} (Err e)
closed_short grow served page params r stands s old new held e same stood none = record {
  got = [];
  replies = same ∙ sym (append-nil old);
  after = s;
  stood = stood;
  ends = λ future. within_none held.head s (fault_answers served page params r future s) none (fault_grows grow served page params r s none future);
}

-- so does it behind the fetch of an error page
page_grows : RunsGrowOn → (served : Served) (page : Page) (params : List Param) (r : Raise) (path : List ℕ) (target : Page) (s : State) → error_path page ≡ Some path → served.pages path ≡ good target → s.writer.pieces ≡ []
    → (future : List Answer) → Grows (fetched path s) (end_state (fault_answers served page params r future s))
page_grows grow served page params r path target s named is none future =
    subst (λ o. Grows (fetched path s) (end_state (error_at served r params o (given future s)))) (sym named)
    (subst (λ f. Grows (fetched path s) (end_state (error_answer served r params path f (given future s)))) (sym is)
    (let g = grow.chain (with_exception r served) (first_fault r) status_is.InternalServerError level_limit target params (with_no_visits (fetched path (given future s))) (grow.first r) none in record { asked = g.asked; order = g.order; pieces = g.pieces; session = g.session }))

-- where memory ran out after the fetch of an error page nothing more was done
pub closed_fetched : {E : Type 0} → RunsGrowOn → (served : Served) (tree : List File) (page : Page) (params : List Param) (r : Raise) (path : List ℕ) (target : Page) (stands : State → Type 0) (s : State) (old new : List Answer) (held : Held) (e : E) → error_path page ≡ Some path
    → served.pages path ≡ good target → new ≡ old → stands (fetched path s) → s.writer.pieces ≡ [] → Closed (fault_answers served page params r) stands s old new held {E = E} (Err e)
closed_fetched grow served tree page params r path target stands s old new held e named is same stood none = record {
  got = [];
  replies = same ∙ sym (append-nil old);
  after = fetched path s;
  stood = stood;
  ends = λ future. within_none held.head (fetched path s) (fault_answers served page params r future s) none (page_grows grow served page params r path target s named is none future);
}

-- no error page is named: the line
pub says_none : (served : Served) (page : Page) (params : List Param) (r : Raise) (s : State) (future : List Answer) → error_path page ≡ None
    → fault_answers served page params r future s ≡ responds (record { head = head_of status_is.InternalServerError (Some (codes "text/plain;charset=UTF-8")) None s; pieces = []; rest = run_fault_line r ++ codes "\n"; broken = false }) (given future s)
says_none served page params r s future named = ap (λ o. error_at served r params o (given future s)) named

-- the error page is named: what stands there
pub says_found : (served : Served) (page : Page) (params : List Param) (r : Raise) (path : List ℕ) (found : Paged) (s : State) (future : List Answer) → error_path page ≡ Some path → served.pages path ≡ found
    → fault_answers served page params r future s ≡ error_answer served r params path found (given future s)
says_found served page params r path found s future named is = ap (λ o. error_at served r params o (given future s)) named ∙ ap (λ f. error_answer served r params path f (given future s)) is

-- what the chain of an error page answers
error_chained : (served : Served) (page : Page) (params : List Param) (r : Raise) (path : List ℕ) (target : Page) (s : State) (future : List Answer) → error_path page ≡ Some path → served.pages path ≡ good target
    → fault_answers served page params r future s ≡ chain_answers (with_exception r served) status_is.InternalServerError 100 target params (first_fault r) future (with_no_visits (fetched path s))
unfolding level_limit
error_chained served page params r path target s future named is = says_found served page params r path (good target) s future named is

-- an error page ran in vain
pub closed_vain : {E F : Type 0} (e : E) (f : F) → RunsGrowOn → (served : Served) (page : Page) (params : List Param) (r : Raise) (path : List ℕ) (target : Page) (request : Request) (tree : List File) (ran stands : State → Type 0) (s : State) (old mid new : List Answer) (held : Held)
    → error_path page ≡ Some path → served.pages path ≡ good target → mid ≡ old → ((t : State) → ran t → stands t)
    → Chained (chain_answers (with_exception r served) status_is.InternalServerError 100 target params) request tree ran (with_no_visits (fetched path s)) mid new held {E = E} (Err e) → Closed (fault_answers served page params r) stands s old new held {E = F} (Err f)
closed_vain e f grow served page params r path target request tree ran stands s old mid new held named is same goes chained = record {
  got = chained.got;
  replies = chained.replies ∙ ap (λ l. l ++ chained.got) same;
  after = chained.after;
  stood = goes chained.after chained.stood;
  ends = λ future. subst (GoesWithin held.head chained.after) (sym (error_chained served page params r path target s (chained.got ++ future) named is)) (chained.ends (first_fault r) (grow.first r) future);
}

pub done_open : (r : Reply) (pieces : List (List ℕ)) → IsEndOpen (ended.Done r) pieces → IsReplyOpen r pieces
done_open (reply.Written broken) pieces h = h
done_open (reply.Whole status content_type location body) pieces h = h

-- an error page answers
pub closed_done : {E F : Type 0} (reply : Reply) (served : Served) (page : Page) (params : List Param) (r : Raise) (path : List ℕ) (target : Page) (request : Request) (tree : List File) (ran stands : State → Type 0) (s : State) (old mid new : List Answer) (held : Held)
    → error_path page ≡ Some path → served.pages path ≡ good target → mid ≡ old → ((t : State) → ran t → stands t)
    → Chained (chain_answers (with_exception r served) status_is.InternalServerError 100 target params) request tree ran (with_no_visits (fetched path s)) mid new held {E = E} (Ok (ended.Done reply)) → Closed (fault_answers served page params r) stands s old new held {E = F} (Ok reply)
closed_done answer served page params r path target request tree ran stands s old mid new held named is same goes chained =
    let opened = chained.ends.2 in
    let answers = chained.ends.3 in
    record {
      got = chained.got;
      replies = chained.replies ∙ ap (λ l. l ++ chained.got) same;
      after = chained.after;
      stood = goes chained.after chained.stood;
      ends = (done_open answer chained.after.writer.pieces opened, λ future. error_chained served page params r path target s (chained.got ++ future) named is ∙ answers (first_fault r) future);
    }

-- an error page ended by a fault: the line of the first
pub closed_failed : {E F : Type 0} (failure : Failure) (told : Reply) (served : Served) (page : Page) (params : List Param) (r : Raise) (path : List ℕ) (target : Page) (request : Request) (tree : List File) (ran stands : State → Type 0) (s : State) (old mid new : List Answer) (held : Held)
    → error_path page ≡ Some path → served.pages path ≡ good target → mid ≡ old → ((t : State) → ran t → stands t)
    → told ≡ reply.Whole status_is.InternalServerError (Some (codes "text/plain;charset=UTF-8")) None (run_fault_line r ++ codes "\n")
    → Chained (chain_answers (with_exception r served) status_is.InternalServerError 100 target params) request tree ran (with_no_visits (fetched path s)) mid new held {E = E} (Ok (ended.Failed failure)) → Closed (fault_answers served page params r) stands s old new held {E = F} (Ok told)
closed_failed {F = F} failure told served page params r path target request tree ran stands s old mid new held named is same goes line chained =
    let opened = chained.ends.2 in
    let answers = chained.ends.3 in
    record {
      got = chained.got;
      replies = chained.replies ∙ ap (λ l. l ++ chained.got) same;
      after = chained.after;
      stood = goes chained.after chained.stood;
      ends = subst (λ x. ClosedSo {E = F} (λ future. fault_answers served page params r (chained.got ++ future) s) held chained.after (Ok x)) (sym line)
          (opened, λ future. error_chained served page params r path target s (chained.got ++ future) named is ∙ answers (first_fault r) future);
    }

-- the visits of an error page begin again, at the first level
pub begun_again : (origin : Origin) (scopes : ScopeState) (held : Held) (taken : Option (List ℕ)) (faults : ℕ) (around : Around) (raise : Option MachineRaise) (asking : Asking) (s : State) → StandsFor origin scopes held taken faults around asking s
    → StandsFor origin scopes held taken faults (record around { visits = 0; depth = 0; exception = raise }) asking (with_no_visits s)
begun_again origin scopes held taken faults around raise asking s h = record {
  scopes = h.scopes;
  asked = h.asked;
  ordered = h.ordered;
  writer = h.writer;
  visits = refl;
  charge = h.charge;
  id = h.id;
  fresh = h.fresh;
}

-- what a look at a path leaves where memory ran out in it, by what is answered from the state
-- before it and from the one behind the fetch of a page
module _ (answers : List Answer → State → Answered) (tree : List File) (path : List ℕ) (origin : Origin) (scopes : ScopeState) (held : Held) (taken : Option (List ℕ)) (faults : ℕ) (around : Around) (old new : Asking) (s : State)
    (stands : StandsFor origin scopes held taken faults around old s) (none : s.writer.pieces ≡ []) (short : (future : List Answer) → Grows s (end_state (answers future s)))
    (behind : (read : Result Page PageFault) → paged_at tree path ≡ found_as true (Some read) None → (future : List Answer) → Grows (fetched path s) (end_state (answers future s))) where
  silent : {E : Type 0} (e : E) (file : Option File) → look_steps path file ≡ [] → HasLooked old new path file → Closed answers (Reached origin scopes held taken faults around new) s old.answers new.answers held {E = E} (Err e)
  silent e file steps looked = record {
    got = [];
    replies = looked.answers ∙ sym (append-nil old.answers);
    after = s;
    stood = reached origin scopes held taken faults around new s (quiet_stands origin scopes held taken faults around old new path file s steps looked stands);
    ends = λ future. within_none held.head s (answers future s) none (short future);
  }

  at_file : {E : Type 0} (e : E) (b : Bool) (file : File) → is_page path ≡ b → file_at path tree ≡ Some file → HasLooked old new path (Some file) → Closed answers (Reached origin scopes held taken faults around new) s old.answers new.answers held {E = E} (Err e)
  at_file e true file is there looked =
      let read = page_there tree path (subst (IsPageFile path) (sym there) is) in
      let on = page_stands origin scopes held taken faults around old new path (Some file) s (page_charge path) refl is looked stands in
      record {
        got = [];
        replies = looked.answers ∙ sym (append-nil old.answers);
        after = fetched path s;
        stood = record { scopes_are = on.scopes; asked = on.asked; ordered = on.ordered; writer = on.writer; id = on.id; fresh = on.fresh };
        ends = λ future. within_none held.head (fetched path s) (answers future s) none (behind read.0 read.1 future);
      }
  at_file e false file is there looked = silent e (Some file) (ap (λ b. if b then fetch path ∷ [] else []) is) looked

  at_found : {E : Type 0} (e : E) (file : Option File) → file_at path tree ≡ file → HasLooked old new path file → Closed answers (Reached origin scopes held taken faults around new) s old.answers new.answers held {E = E} (Err e)
  at_found e None there looked = silent e None refl looked
  at_found e (Some file) there looked = at_file e (is_page path) file refl there looked

  pub closed_look : {E : Type 0} (e : E) → HasLooked old new path (file_at path tree) ⊎ (new ≡ old) → Closed answers (Reached origin scopes held taken faults around new) s old.answers new.answers held {E = E} (Err e)
  closed_look e (inl looked) = at_found e (file_at path tree) refl looked
  closed_look e (inr same) = record {
    got = [];
    replies = ap (λ (a : Asking). a.answers) same ∙ sym (append-nil old.answers);
    after = s;
    stood = subst (λ a. Reached origin scopes held taken faults around a s) (sym same) (reached origin scopes held taken faults around old s stands);
    ends = λ future. within_none held.head s (answers future s) none (short future);
  }

module _ (grow : RunsGrowOn) (served : Served) (tree : List File) (pages : (p : List ℕ) → served.pages p ≡ paged_at tree p) (page : Page) (params : List Param) (r : Raise) (path : List ℕ) (named : error_path page ≡ Some path) (s : State) (none : s.writer.pieces ≡ []) where
  fault_behind : (read : Result Page PageFault) → paged_at tree path ≡ found_as true (Some read) None → (future : List Answer) → Grows (fetched path s) (end_state (fault_answers served page params r future s))
  fault_behind (Ok target) is future = page_grows grow served page params r path target s named (pages path ∙ is) none future
  fault_behind (Err fault) is future = subst (λ a. Grows (fetched path s) (end_state a)) (sym (says_found served page params r path (bad fault) s future named (pages path ∙ is))) (plain_grows (fetched path s) future)

  -- where memory ran out in a look at an error page's path nothing more was done
  pub closed_looked : {E : Type 0} (e : E) (origin : Origin) (scopes : ScopeState) (held : Held) (taken : Option (List ℕ)) (faults : ℕ) (around : Around) (old new : Asking) → StandsFor origin scopes held taken faults around old s
      → HasLooked old new path (file_at path tree) ⊎ (new ≡ old) → Closed (fault_answers served page params r) (Reached origin scopes held taken faults around new) s old.answers new.answers held {E = E} (Err e)
  closed_looked e origin scopes held taken faults around old new stands looked =
      closed_look (fault_answers served page params r) tree path origin scopes held taken faults around old new s stands none (fault_grows grow served page params r s none) fault_behind e looked
