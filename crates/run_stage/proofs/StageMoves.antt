-- What the calls of the lent writer, variables and counts do of the state for which a stage stands.
use Rattle.std.proofs.Common.{◌≡◌, ℕ, List, [], Option, Result, Ok, Err, refl, sym, ap, ◌∙◌, subst, append-nil, ◌∷◌}
use Rattle.std.specs.Prelude.{⊤, OnErr, OnOk}
use Rattle.out_buffer.specs.Held.{Comes, Held, Stands}
use Rattle.out_buffer.specs.Writer.{Writer, body_answer, innermost, put, without_body, flushed, piece_of}
use Rattle.run_world.specs.Origin.{Origin}
use Rattle.run_world.specs.Part.{given, WentSo, Doing, Changes}
use Rattle.run_stage.specs.Stage.{Reached}
use Rattle.run_stage.specs.declared.stage.Stage.{Stage}
use Rattle.run_world.proofs.Adds.{put_text_adds, result as result_adds}
use Rattle.run_world.proofs.Parts.{adds_given}
use Rattle.edges.proofs.Own.{front_same}
use Rattle.edges.specs.History.{IsFront}
use Rattle.page_meaning.proofs.Growing.{ordered_on}
use Rattle.page_meaning.specs.Bodies.{put_text, taken as body_taken}
use Rattle.page_meaning.specs.Growth.{state_of, Grows}
use Rattle.page_meaning.specs.State.{State, in_scopes, in_writer}
use Rattle.page_meaning.specs.Went.{Did, Well, then_do, result_of}
use Rattle.pg_text.specs.Failure.{Answers}
use Rattle.pg_text.specs.declared.failure.Failure.{Failure}
use Rattle.pg_text.specs.declared.failure.Failure.TheVariants as failure
use Rattle.pg_text.specs.declared.place.Place.{Place}
use Rattle.pg_value.specs.declared.fault.RunFault.{RunFault}
use Rattle.scopes.specs.Scopes.{ScopeState}
use Rattle.site_words.specs.Law.{Answer}
use Rattle.site_words.specs.Running.{Asking}
use Rattle.source_tree.specs.declared.file.File.{File}

-- what is put or flushed only adds pieces

no_place : Place
no_place = record { file = []; byte = 0; line = 0; column = 0 }

put_front : (bytes : List ℕ) (s : State) (w : Writer) → put bytes s.writer ≡ Ok w → IsFront s.writer.pieces w.pieces
put_front bytes s w is =
    let grows = subst (λ r. Grows s (state_of (then_do (result_of no_place r s) (λ v s1. let d : Did = Well tt (in_writer v s1) in d)))) is (put_text_adds no_place bytes s) in
    grows.pieces

pub flush_front : (kept : List (List ℕ)) (w : Writer) → IsFront w.pieces (flushed kept w).pieces
flush_front [] w = (piece_of w.buffer, refl)
flush_front (body ∷ outer) w = ([], sym (append-nil w.pieces))

module _ {P K : Type 0} where
  -- with another writer and sink
  abbrev pub written_stage : Stage P K → Held → K → Stage P K
  written_stage w held sink = record w { writer = record w.writer { now = held }; sink = record w.sink { now = sink } }

  -- with other variables
  abbrev pub scoped_stage : Stage P K → ScopeState → Stage P K
  scoped_stage w scopes = record w { scopes = record w.scopes { now = scopes } }

module _ {P K : Type 0} {taken : K → Option (List ℕ)} {faults : K → ℕ} {leads : P → P → Type 0} {asking : P → Asking} {tree : P → List File} where
  pub stage_written : (first w : Stage P K) (origin : Origin) (s : State) (held : Held) (sink : K) (t : Writer) → Reached taken faults leads asking tree first origin w s
      → Stands origin.start origin.before held (taken sink) (faults sink) t → held.head ≡ w.writer.now.head → held.shown ≡ w.writer.now.shown → IsFront s.writer.pieces t.pieces
      → Reached taken faults leads asking tree first origin (written_stage w held sink) (in_writer t s)
  stage_written first w origin s held sink t r stands head shown more = record {
    same = record { scopes = r.same.scopes; writer = r.same.writer; sink = r.same.sink; around = r.same.around; port = r.same.port };
    leads = r.leads;
    tree = r.tree;
    writer = stands;
    scopes = r.scopes;
    asked = r.asked;
    ordered = ordered_on s (in_writer t s) refl more r.ordered;
    depth = r.depth;
    visits = r.visits;
    charge = r.charge;
    id = r.id;
    fresh = r.fresh;
    session = r.session;
    response = record { head = head ∙ r.response.head; shown = shown ∙ r.response.shown };
    charged = r.charged;
  }

  pub stage_scoped : (first w : Stage P K) (origin : Origin) (s : State) (scopes : ScopeState) → Reached taken faults leads asking tree first origin w s
      → Reached taken faults leads asking tree first origin (scoped_stage w scopes) (in_scopes scopes s)
  stage_scoped first w origin s scopes r = record {
    same = record { scopes = r.same.scopes; writer = r.same.writer; sink = r.same.sink; around = r.same.around; port = r.same.port };
    leads = r.leads;
    tree = r.tree;
    writer = r.writer;
    scopes = refl;
    asked = r.asked;
    ordered = r.ordered;
    depth = r.depth;
    visits = r.visits;
    charge = r.charge;
    id = r.id;
    fresh = r.fresh;
    session = r.session;
    response = r.response;
    charged = r.charged;
  }

  -- a change of the variables
  pub scopes_changed : (w : Stage P K) (change : ScopeState → ScopeState) (scopes : ScopeState) → scopes ≡ change w.scopes.now
      → Changes (Reached taken faults leads asking tree) (λ s. in_scopes (change s.scopes) s) w (scoped_stage w scopes)
  scopes_changed w change scopes e = record {
    by = λ first origin s r.
        subst (λ x. Reached taken faults leads asking tree first origin (scoped_stage w scopes) (in_scopes x s)) (e ∙ ap change (sym r.scopes)) (stage_scoped first w origin s scopes r);
  }

  -- a change of the writer
  pub writer_changed : (w : Stage P K) (change : Writer → Writer) → ((writer : Writer) → IsFront writer.pieces (change writer).pieces) → (held : Held) (sink : K)
      → ((start : Option (List ℕ)) (before : ℕ) (writer : Writer) → Stands start before w.writer.now (taken w.sink.now) (faults w.sink.now) writer → Stands start before held (taken sink) (faults sink) (change writer))
      → held.head ≡ w.writer.now.head → held.shown ≡ w.writer.now.shown
      → Changes (Reached taken faults leads asking tree) (λ s. in_writer (change s.writer) s) w (written_stage w held sink)
  writer_changed w change adds held sink stands head shown = record {
    by = λ first origin s r. stage_written first w origin s held sink (change s.writer) r (stands origin.start origin.before s.writer r.writer) head shown (adds s.writer);
  }

  -- a text that is put
  pub put_doing : {replies : Stage P K → List Answer} (w : Stage P K) (held : Held) (sink : K) (text : List ℕ) (result : Result ⊤ (Failure RunFault))
      → ((start : Option (List ℕ)) (before : ℕ) (writer : Writer) → Stands start before w.writer.now (taken w.sink.now) (faults w.sink.now) writer
      → Comes (put text writer) result (Stands start before held (taken sink) (faults sink)))
      → held.head ≡ w.writer.now.head → held.shown ≡ w.writer.now.shown → OnErr result ((held ≡ w.writer.now) × (sink ≡ w.sink.now)) → replies (written_stage w held sink) ≡ replies w
      → Doing (Reached taken faults leads asking tree) replies (λ u. u) (λ place. put_text place text) w (written_stage w held sink) result
  put_doing {replies} w held sink text (Ok u) comes head shown err same = record {
    by = λ first origin s r.
        let h = comes origin.start origin.before s.writer r.writer in
        record {
          got = [];
          replies = same ∙ sym (append-nil (replies w));
          after = in_writer h.0 s;
          stood = stage_written first w origin s held sink h.0 r h.2 head shown (put_front text s h.0 h.1);
          went = λ place future. ap (λ x. then_do (result_of place x (given future s)) (λ v s1. let d : Did = Well tt (in_writer v s1) in d)) h.1;
        };
  }
  put_doing {replies} w held sink text (Err (failure.Fault f)) comes head shown err same = record {
    by = λ first origin s r.
        let h = comes origin.start origin.before s.writer r.writer in
        record {
          got = [];
          replies = same ∙ sym (append-nil (replies w));
          after = s;
          stood =
              subst (λ k. Reached taken faults leads asking tree first origin (written_stage w held k) s) (sym err.1)
              (subst (λ x. Reached taken faults leads asking tree first origin (written_stage w x w.sink.now) s) (sym err.0) r);
          went = λ place future. ap (λ x. then_do (result_of place x (given future s)) (λ v s1. let d : Did = Well tt (in_writer v s1) in d)) h;
        };
  }
  put_doing {replies} w held sink text (Err failure.NoMemory) comes head shown err same = record {
    by = λ first origin s r.
        record {
          got = [];
          replies = same ∙ sym (append-nil (replies w));
          after = s;
          stood =
              subst (λ k. Reached taken faults leads asking tree first origin (written_stage w held k) s) (sym err.1)
              (subst (λ x. Reached taken faults leads asking tree first origin (written_stage w x w.sink.now) s) (sym err.0) r);
          went = λ place future. adds_given future s (state_of (put_text place text (given future s))) (put_text_adds place text (given future s));
        };
  }

  -- a kept body that is taken
  pub taken_doing : {replies : Stage P K → List Answer} (w : Stage P K) (held : Held) (result : Result (List ℕ) (Failure RunFault)) → Answers (body_answer (innermost w.writer.now.kept)) result
      → ((start : Option (List ℕ)) (before : ℕ) (taken : Option (List ℕ)) (faults : ℕ) (writer : Writer) → Stands start before w.writer.now taken faults writer → Stands start before held taken faults (without_body writer))
      → held.head ≡ w.writer.now.head → held.shown ≡ w.writer.now.shown → replies (written_stage w held w.sink.now) ≡ replies w
      → Doing (Reached taken faults leads asking tree) replies (λ t. t) body_taken w (written_stage w held w.sink.now) result
  taken_doing {replies} w held result answers stands head shown same = record {
    by = λ first origin s r. record {
      got = [];
      replies = same ∙ sym (append-nil (replies w));
      after = in_writer (without_body s.writer) s;
      stood = stage_written first w origin s held w.sink.now (without_body s.writer) r (stands origin.start origin.before (taken w.sink.now) (faults w.sink.now) s.writer r.writer) head shown
          (front_same s.writer.pieces);
      went = λ place. goes place s (ap (λ (x : Writer). x.kept) r.writer.holds) result answers;
    };
  }
    where
      goes : (place : Place) (s : State) → s.writer.kept ≡ w.writer.now.kept → (result : Result (List ℕ) (Failure RunFault)) → Answers (body_answer (innermost w.writer.now.kept)) result
          → WentSo (λ (t : List ℕ). t) place (λ future. body_taken place (given future s)) (in_writer (without_body s.writer) s) result
      goes place s e (Ok t) h = λ future. ap (λ x. result_of place x (in_writer (without_body s.writer) (given future s))) (ap (λ k. body_answer (innermost k)) e ∙ h)
      goes place s e (Err (failure.Fault f)) h = λ future. ap (λ x. result_of place x (in_writer (without_body s.writer) (given future s))) (ap (λ k. body_answer (innermost k)) e ∙ h)
      goes place s e (Err failure.NoMemory) h = λ future.
          adds_given future (in_writer (without_body s.writer) s) _ (result_adds place (body_answer (innermost s.writer.kept)) (in_writer (without_body s.writer) (given future s)))

-- a change of the writer for which memory may run out
module _ {P K : Type 0} (taken : K → Option (List ℕ)) (faults : K → ℕ) (leads : P → P → Type 0) (asking : P → Asking) (tree : P → List File) where
  pub writer_ok : {A E : Type 0} (w : Stage P K) (change : Writer → Writer) → ((writer : Writer) → IsFront writer.pieces (change writer).pieces) → (held : Held) (sink : K) (result : Result A E)
      → ((start : Option (List ℕ)) (before : ℕ) (writer : Writer) → Stands start before w.writer.now (taken w.sink.now) (faults w.sink.now) writer → OnOk result (Stands start before held (taken sink) (faults sink) (change writer)))
      → held.head ≡ w.writer.now.head → held.shown ≡ w.writer.now.shown
      → OnOk result (Changes (Reached taken faults leads asking tree) (λ s. in_writer (change s.writer) s) w (written_stage w held sink))
  writer_ok w change adds held sink (Ok a) stands head shown = writer_changed w change adds held sink stands head shown
  writer_ok w change adds held sink (Err e) stands head shown = tt
