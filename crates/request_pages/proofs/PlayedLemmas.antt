-- The run of a page from its beginning.
use Rattle.std.proofs.Common.{◌≡◌, ℕ, Bool, true, false, List, [], ◌++◌, Option, Some, None, refl, sym, ap, subst, ◌∙◌, append-nil, arith}
use Rattle.std.specs.Prelude.{Result, Ok, Err}
use Rattle.http_in.specs.declared.params.Param.{Param}
use Rattle.http_out.specs.declared.head.Head.{Head}
use Rattle.http_out.specs.declared.status.Status.{Status}
use Rattle.out_buffer.specs.Streamed.{HasTaken, so_far}
use Rattle.out_buffer.specs.Writer.{Writer, empty_writer}
use Rattle.out_buffer.specs.Held.{Held, Stands, fresh}
use Rattle.run_pages.specs.Run.{StandsFor}
use Rattle.compiled_pages.specs.Made.{IsPageAt, IsProgramOf}
use Rattle.request_port.proofs.HeadLemmas.{no_head}
use Rattle.request_port.specs.Dropped.{HeadsSo}
use Rattle.page_meaning.proofs.Growing.{uncommitted, ordered_on}
use Rattle.page_meaning.specs.Context.{Served}
use Rattle.page_meaning.specs.Growth.{state_of, IsOrdered}
use Rattle.page_meaning.specs.Laws.{ForwardsLeaveFewer, StepsAndPiecesGrow}
use Rattle.page_meaning.specs.Page.{Page}
use Rattle.page_meaning.specs.Respond.{at_start, first_run, run_answer}
use Rattle.page_meaning.specs.Response.{head_of}
use Rattle.page_meaning.specs.State.{State}
use Rattle.run_pages.specs.Meant.{page_mean}
use Rattle.request_pages.specs.PageEnd.{PageEnded, PageEndsSo}
use Rattle.request_pages.specs.Played.{Played, PlayedSo}
use Rattle.request_pages.specs.declared.reply.PageEnd.{PageEnd}
use Rattle.request_pages.proofs.WithinLemmas.{run_heads}
use Rattle.request_pages.specs.Within.{sent_head}
use Rattle.response_laws.proofs.Behind.{first_grows, run_leaves}
use Rattle.run_stage.specs.Keeping.{head_after, naming}
use Rattle.run_world.proofs.Parts.{adds_given}
use Rattle.run_world.specs.Origin.{Origin}
use Rattle.run_world.specs.Part.{given}
use Rattle.run_world.specs.declared.around.Around.{Around}
use Rattle.run_world.specs.declared.program.Program.{Program}
use Rattle.scopes.specs.Scopes.{ScopeState}
use Rattle.site_words.specs.Law.{Answer}
use Rattle.site_words.specs.Running.{Asking}
use Rattle.source_tree.specs.declared.file.File.{File}

-- the program of a page has its settings
pub settings_same : (program : Program) (tree : List File) (path : List ℕ) (page : Page) → IsProgramOf program tree path → IsPageAt page tree path → program.settings ≡ page.settings
settings_same program tree path page made is =
    let same : made.page ≡ page = let a = made.stands in cc in
    ap (λ p. p.settings) made.lowered ∙ ap (λ p. p.settings) same

-- a head that names a session is else the same

naming_status : (head : Head) (id : Option (List ℕ)) (fresh : Bool) → (naming head id fresh).status ≡ head.status
naming_status head None true = refl
naming_status head None false = refl
naming_status head (Some id) true = refl
naming_status head (Some id) false = refl

naming_type : (head : Head) (id : Option (List ℕ)) (fresh : Bool) → (naming head id fresh).content_type ≡ head.content_type
naming_type head None true = refl
naming_type head None false = refl
naming_type head (Some id) true = refl
naming_type head (Some id) false = refl

pub after_status : (head : Head) (before : Bool) (id : Option (List ℕ)) (fresh : Bool) → (head_after head before id fresh).status ≡ head.status
after_status head true id fresh = refl
after_status head false id fresh = naming_status head id fresh

pub after_type : (head : Head) (before : Bool) (id : Option (List ℕ)) (fresh : Bool) → (head_after head before id fresh).content_type ≡ head.content_type
after_type head true id fresh = refl
after_type head false id fresh = naming_type head id fresh

-- where something stands for a state and nothing was committed, nothing was in the state
pub none_committed : (origin : Origin) (scopes : ScopeState) (held : Held) (taken : Option (List ℕ)) (faults : ℕ) (around : Around) (asking : Asking) (s : State) → held.committed ≡ false → StandsFor origin scopes held taken faults around asking s
    → s.writer.pieces ≡ []
none_committed origin scopes held taken faults around asking s none stands = uncommitted s.writer.pieces (sym stands.writer.committed ∙ none)

-- so that the order of its steps stands at a page's beginning too
pub started_ordered : (origin : Origin) (scopes : ScopeState) (held : Held) (taken : Option (List ℕ)) (faults : ℕ) (around : Around) (asking : Asking) (s : State) (page : Page) → held.committed ≡ false
    → StandsFor origin scopes held taken faults around asking s → IsOrdered (at_start page s)
started_ordered origin scopes held taken faults around asking s page none stands =
    ordered_on s (at_start page s) refl ([], sym (append-nil s.writer.pieces ∙ none_committed origin scopes held taken faults around asking s none stands)) stands.ordered

-- nor was anything sent, so that a writer at the start of a response stands for one that has written nothing

unsent : (start : Option (List ℕ)) (before : ℕ) (failed : Bool) (taken : Option (List ℕ)) (faults : ℕ) → HasTaken start before [] failed taken faults → HasTaken start before [] false taken faults
unsent start before false taken faults sent = sent
unsent start before true taken faults sent = let within = sent.sent.1 in absurd (omega (arith, within))

pub started_writer : (start : Option (List ℕ)) (before : ℕ) (held started : Held) (taken : Option (List ℕ)) (faults : ℕ) (writer : Writer) (head : Head) (size : Option ℕ) (autoflush shown : Bool) → held.committed ≡ false
    → Stands start before held taken faults writer → started ≡ fresh head size autoflush shown → Stands start before started taken faults (empty_writer size autoflush)
started_writer start before held started taken faults writer head size autoflush shown none stands is =
    let no_pieces : writer.pieces ≡ [] = uncommitted writer.pieces (sym stands.committed ∙ none) in
    let sent = subst (λ pieces. HasTaken start before (so_far held.head held.shown pieces) held.failed taken faults) no_pieces stands.streamed in
    let begun : Stands start before (fresh head size autoflush shown) taken faults (empty_writer size autoflush) = record { holds = refl; committed = refl; streamed = unsent start before held.failed taken faults sent } in
    subst (λ held. Stands start before held taken faults (empty_writer size autoflush)) (sym is) begun

-- memory ran out before the run began
pub played_short : {E : Type 0} → ForwardsLeaveFewer → StepsAndPiecesGrow → (served : Served) (status : Status) (page : Page) (params : List Param) (left : ℕ) (stands : State → Type 0) (s : State) (answers : List Answer) (depth : ℕ) (held : Held) (e : E)
    → stands s → s.writer.pieces ≡ [] → Played served status page params left stands s answers answers depth held {E = E} (Err e)
played_short leaves grows served status page params left stands s answers depth held e stood none = record {
  got = [];
  replies = sym (append-nil answers);
  after = s;
  stood = stood;
  ends = λ future. (
    adds_given future s (state_of (first_run served left page params (given future s))) (first_grows leaves grows served left page params (given future s) none),
    λ target at_fault. no_head (sent_head held.head s) s.writer.pieces (run_answer target at_fault status page params (first_run served left page params (given future s))) none,
  );
}

-- what a page's run was from its beginning
pub played_of : {E : Type 0} → ForwardsLeaveFewer → StepsAndPiecesGrow → (served : Served) (status : Status) (page : Page) (params : List Param) (left : ℕ) (stands : State → Type 0) (s : State) (old new : List Answer) (depth : ℕ) (held : Held) (result : Result PageEnd E)
    → status ≡ held.head.status → Some page.settings.content_type ≡ held.head.content_type → PageEnded served page params left stands (at_start page s) old new depth held result
    → Played served status page params left stands s old new depth held result
played_of {E = E} leaves grow served status page params left stands s old new depth held result st ct ended = record {
  got = ended.got;
  replies = ended.replies;
  after = ended.after;
  stood = ended.stood;
  ends = so result ended.ends;
}
  where
    so : (result : Result PageEnd E) → PageEndsSo (λ future. page_mean served left page params (given (ended.got ++ future) (at_start page s))) page params left depth held ended.after result
        → PlayedSo (λ future. first_run served left page params (given (ended.got ++ future) s)) status page params left depth held ended.after result
    so (Ok g) (l, target, none, answers) = (l, target, none, λ to at_fault future. answers to at_fault status st ct future)
    so (Err e) grows = λ future.
        let went = page_mean served left page params (given (ended.got ++ future) (at_start page s)) in
        let all = run_leaves leaves grow served left page params (given (ended.got ++ future) (at_start page s)) in (
          grows future,
          λ target at_fault.
              subst (λ x. HeadsSo (head_of x held.head.content_type None ended.after) ended.after.writer.pieces (run_answer target at_fault status page params went)) st
              (subst (λ x. HeadsSo (head_of status x None ended.after) ended.after.writer.pieces (run_answer target at_fault status page params went)) ct
              (run_heads target at_fault status page params ended.after left went all (grows future))),
        )
