-- What a stage stands for where a page run is lent it, and where the run gives it back.
use Rattle.std.proofs.Common.{◌≡◌, inl, ◌≤◌, ◌+◌, ℕ, List, [], ◌++◌, Option, Some, None, refl, sym, ap, ◌∙◌, subst, arith, length, map, ◌∷◌}
use Rattle.std.specs.Option.{option_copied}
use Rattle.std.specs.Prelude.{is_some, option_map}
use Rattle.std.specs.Borrow.{Bor}
use Rattle.out_buffer.specs.Held.{Held, Stands}
use Rattle.out_buffer.specs.Writer.{Writer}
use Rattle.http_in.specs.declared.params.Param.{Param}
use Rattle.http_in.specs.declared.request.Request.{Request}
use Rattle.page_machine.specs.Run.{DepthSo, IsInOrder, IsServed, PageRan, RunEndsSo, SeesSo, StandsFor, depth_behind, end_of}
use Rattle.page_machine.specs.Turn.{EndsSo, Ran, RunFrom}
use Rattle.page_machine.specs.declared.running.RunEnd.{RunEnd}
use Rattle.page_meaning.specs.State.{State}
use Rattle.page_meaning.specs.Went.{Did}
use Rattle.page_table.specs.Program.{Program, Serving}
use Rattle.page_table.specs.Runs.{PageRuns}
use Rattle.pg_text.specs.declared.place.PageFault.{PageFault}
use Rattle.run_moves.specs.declared.flow.End.{End}
use Rattle.run_moves.specs.declared.flow.End.TheVariants as ends
use Rattle.run_stage.specs.Stage.{Covered, Reached, StoresSo}
use Rattle.run_stage.specs.StageLaws.{no_claim, same_head}
use Rattle.run_stage.specs.Keeping.{HasCharged, KeepsResponse}
use Rattle.run_stage.specs.declared.stage.Stage.{Stage}
use Rattle.run_world.specs.Origin.{Origin}
use Rattle.run_world.specs.Part.{given}
use Rattle.run_world.specs.Seats.{raise_of}
use Rattle.run_world.specs.declared.around.Around.{Around}
use Rattle.run_world.specs.declared.program.Program as machine_program
use Rattle.run_world.specs.declared.raised.Raise.{Raise}
use Rattle.scopes.specs.Scopes.{ScopeState}
use Rattle.site_words.specs.Law.{Answer}
use Rattle.site_words.specs.Running.{Asking}
use Rattle.source_tree.specs.declared.file.File.{File}
use Rattle.std.proofs.lemmas.List.{length-map}
use Rattle.site_words.specs.PageSteps.{Step}
use Rattle.site_words.specs.Trees.{Each}

-- the fault that an error page sees, behind a reference
pub raise_seen : (seen : Option (Bor Raise)) (kept : Option Raise) → option_copied seen ≡ kept → option_map (λ (r : Bor Raise). raise_of r.now) seen ≡ option_map raise_of kept
raise_seen None kept e = ap (option_map raise_of) e
raise_seen (Some r) kept e = ap (option_map raise_of) e

-- what is kept across page runs, at another depth and with another fault
abbrev pub aside : Around → (depth : ℕ) → Option Raise → Around
aside around depth exception = record around { depth = depth; exception = exception }

-- neither is part of the state
pub stands_aside : (origin : Origin) (variables : ScopeState) (held : Held) (taken : Option (List ℕ)) (faults : ℕ) (around : Around) (asking : Asking) (s : State) (depth : ℕ) (exception : Option Raise)
    → StandsFor origin variables held taken faults around asking s → StandsFor origin variables held taken faults (aside around depth exception) asking s
stands_aside origin variables held taken faults around asking s depth exception h = record {
  scopes = h.scopes;
  asked = h.asked;
  ordered = h.ordered;
  writer = h.writer;
  visits = h.visits;
  charge = h.charge;
  id = h.id;
  fresh = h.fresh;
}

-- a state that a request's parts stand for, whatever was asked before
abbrev pub state_at : ScopeState → Writer → Around → Asking → State
state_at variables writer around asking = record { scopes = variables; writer = writer; visits = around.visits; charge = around.charge; id = around.id; is_fresh = around.fresh; answers = []; asked = asking.asked; order = map (λ step. 0) asking.asked }

all_first : (limit : ℕ) (steps : List Step) → Each (λ count. count ≤ limit) (map (λ step. 0) steps)
all_first limit [] = tt
all_first limit (step ∷ steps) = (omega arith, all_first limit steps)

-- and the place from where it counts
abbrev pub origin_at : Option (List ℕ) → ℕ → Origin
origin_at start before = record { start = start; before = before; asked = [] }

pub stands_at : (variables : ScopeState) (held : Held) (taken : Option (List ℕ)) (faults : ℕ) (around : Around) (asking : Asking) (start : Option (List ℕ)) (before : ℕ) (writer : Writer) → Stands start before held taken faults writer
    → StandsFor (origin_at start before) variables held taken faults around asking (state_at variables writer around asking)
stands_at variables held taken faults around asking start before writer h = record {
  scopes = refl;
  asked = refl;
  ordered = (length-map asking.asked (λ step. 0), all_first (length writer.pieces) asking.asked);
  writer = h;
  visits = refl;
  charge = refl;
  id = refl;
  fresh = refl;
}

-- what is in order is covered by this much of the promise, and the other way round
pub covered_at : (variables : ScopeState) (around : Around) (asking : Asking) → IsInOrder variables around asking → 4320000 ≤ around.charge + asking.left → Covered variables.session around.id around.visits around.charge asking
covered_at variables around asking h promise = record {
  session = h.session;
  asked = h.asked;
  weight = h.weight;
  visits = h.visits;
  charge = h.charge;
  promise = omega (arith, promise);
  before = λ none. promise;
}

pub in_order_aside : (variables : ScopeState) (around : Around) (asking : Asking) (depth : ℕ) (exception : Option Raise) → Covered variables.session around.id around.visits around.charge asking → IsInOrder variables (aside around depth exception) asking
in_order_aside variables around asking depth exception h = record { session = h.session; asked = h.asked; weight = h.weight; visits = h.visits; charge = h.charge }

module _ {P K : Type 0} {taken : K → Option (List ℕ)} {faults : K → ℕ} {leads : P → P → Type 0} {asking : P → Asking} {tree : P → List File} where
  -- where a run is lent it
  pub lent : ((port : P) → leads port port) → (w : Stage P K) (origin : Origin) (s : State) → StandsFor origin w.scopes.now w.writer.now (taken w.sink.now) (faults w.sink.now) w.around.now (asking w.port.now) s
      → Reached taken faults leads asking tree w origin w s
  lent leads_here w origin s h = record {
    same = record { scopes = refl; writer = refl; sink = refl; around = refl; port = refl };
    leads = leads_here w.port.now;
    tree = refl;
    writer = h.writer;
    scopes = h.scopes;
    asked = h.asked;
    ordered = h.ordered;
    depth = refl;
    visits = h.visits;
    charge = h.charge;
    id = h.id;
    fresh = h.fresh;
    session = record { stays = λ there. (refl, refl) };
    response = record { head = same_head w.around.now.id w.writer.now.head w.around.now.fresh; shown = refl };
    charged = record { charge = inl refl; promise = omega (arith, no_claim (is_some w.around.now.id)) };
  }

  -- where the run gives it back
  pub given_back : (first w : Stage P K) (origin : Origin) (s : State) → Reached taken faults leads asking tree first origin w s
      → StandsFor origin w.scopes.now w.writer.now (taken w.sink.now) (faults w.sink.now) w.around.now (asking w.port.now) s
  given_back first w origin s r = record {
    scopes = r.scopes;
    asked = r.asked;
    ordered = r.ordered;
    writer = r.writer;
    visits = r.visits;
    charge = r.charge;
    id = r.id;
    fresh = r.fresh;
  }

page_ends : (runs : List Answer → Did → Type 0) (end : End) (old depth : ℕ) (after : State) → depth ≡ depth_behind old end → EndsSo runs end after → RunEndsSo runs depth (end_of end) after
page_ends runs ends.Normal old depth after target h = h
page_ends runs (ends.Forward path params left) old depth after target h = (left, target, h)
page_ends runs (ends.Redirect location) old depth after target h = h
page_ends runs (ends.Raised fault place) old depth after target h = h
page_ends runs ends.NoMemory old depth after target h = h

-- a run from a state, as its caller sees it
pub page_ran : (serving : Serving) (program : Program) (params : List Param) (left levels : ℕ) (reached stands : State → Type 0) (s : State) (replies new told : List Answer) (end : End) (old depth : ℕ) (result : RunEnd)
    → ((t : State) → reached t → stands t) → left ≡ levels → told ≡ new → result ≡ end_of end → depth ≡ depth_behind old end → RunFrom (PageRuns serving program params left) reached s replies new end
    → PageRan serving program params levels stands s replies told depth result
page_ran serving program params left levels reached stands s replies new told end old depth result back same tells is target r =
    subst (λ l. PageRan serving program params l stands s replies told depth result) same
    (record {
      got = r.got;
      replies = tells ∙ r.replies;
      after = r.after;
      stood = back r.after r.stood;
      ends = subst (λ e. RunEndsSo (λ future d. PageRuns serving program params left (given (r.got ++ future) s) d) depth e r.after) (sym is)
          (page_ends (λ future d. PageRuns serving program params left (given (r.got ++ future) s) d) end old depth r.after target r.ends);
    })

-- how deep it ends
pub depth_so : (end : End) (old depth : ℕ) (result : RunEnd) → result ≡ end_of end → depth ≡ depth_behind old end → DepthSo old depth result
depth_so end old depth result is target = subst (DepthSo old depth) (sym is) (go end target)
  where
    go : (end : End) → depth ≡ depth_behind old end → DepthSo old depth (end_of end)
    go ends.Normal e = e
    go (ends.Forward path params left) e = omega (arith, e)
    go (ends.Redirect location) e = e
    go (ends.Raised fault place) e = e
    go ends.NoMemory e = e

-- what holds of what is lent holds of what it was when the loan was over

pub in_order_back : (v w : ScopeState) (a b : Around) (p q : Asking) → w ≡ v → b ≡ a → q ≡ p → IsInOrder v a p → IsInOrder w b q
in_order_back v w a b p q e f g h = subst (λ x. IsInOrder x b q) (sym e) (subst (λ x. IsInOrder v x q) (sym f) (subst (IsInOrder v a) (sym g) h))

pub charged_back : (old a b : Around) (before p q : Asking) → b ≡ a → q ≡ p → HasCharged old a before p → HasCharged old b before q
charged_back old a b before p q f g h = subst (λ x. HasCharged old x before q) (sym f) (subst (HasCharged old a before) (sym g) h)

pub response_back : (old v w : Held) (before a b : Around) → w ≡ v → b ≡ a → KeepsResponse old v before a → KeepsResponse old w before b
response_back old v w before a b e f h = subst (λ x. KeepsResponse old x before b) (sym e) (subst (KeepsResponse old v before) (sym f) h)

module _ {P K : Type 0} (taken : K → Option (List ℕ)) (faults : K → ℕ) (asking : P → Asking) where
  pub stands_back : (origin : Origin) (v v2 : ScopeState) (h h2 : Held) (k k2 : K) (a b : Around) (p p2 : P) (s : State) → v2 ≡ v → h2 ≡ h → k2 ≡ k → b ≡ a → p2 ≡ p → StandsFor origin v h (taken k) (faults k) a (asking p) s
      → StandsFor origin v2 h2 (taken k2) (faults k2) b (asking p2) s
  stands_back origin v v2 h h2 k k2 a b p p2 s e1 e2 e3 e4 e5 st =
      subst (λ x. StandsFor origin x h2 (taken k2) (faults k2) b (asking p2) s) (sym e1)
      (subst (λ x. StandsFor origin v x (taken k2) (faults k2) b (asking p2) s) (sym e2)
      (subst (λ x. StandsFor origin v h (taken x) (faults x) b (asking p2) s) (sym e3)
      (subst (λ x. StandsFor origin v h (taken k) (faults k) x (asking p2) s) (sym e4) (subst (λ x. StandsFor origin v h (taken k) (faults k) a (asking x) s) (sym e5) st))))

-- where the run ends it stands for a state
module _ {P K : Type 0} {taken : K → Option (List ℕ)} {faults : K → ℕ} {leads : P → P → Type 0} {asking : P → Asking} {tree : P → List File} where
  pub stood_at : {made : machine_program.Program → List File → List ℕ → Type 0} {faulty : PageFault → List File → List ℕ → Type 0} {replies : Stage P K → List Answer} {runs : Serving → State → Did → Type 0} {request : Request} {raised : Option Raise}
      {first w : Stage P K} {end : End}
      → Ran (Reached taken faults leads asking tree) replies (SeesSo (λ (x : Stage P K) stored. StoresSo made faulty (tree x.port.now) stored) request raised) runs first w end → ((port : P) → leads port port)
      → (around : Around) (gone : Option Raise) → IsServed made faulty (tree first.port.now) request around → raised ≡ around.exception → first.around.now ≡ aside around around.depth gone
      → (written : (start : Option (List ℕ)) × (before : ℕ) × (writer : Writer) × Stands start before first.writer.now (taken first.sink.now) (faults first.sink.now) writer)
      → (t : State) × Reached taken faults leads asking tree first (origin_at written.0 written.1) w t
  stood_at {first = first} {w = w} ran leads_here around gone served seen kept written =
      let asked = asking first.port.now in
      let origin = origin_at written.0 written.1 in
      let s = state_at first.scopes.now written.2 around asked in
      let begins = stands_aside origin first.scopes.now first.writer.now (taken first.sink.now) (faults first.sink.now) around asked s around.depth gone
      (stands_at first.scopes.now first.writer.now (taken first.sink.now) (faults first.sink.now) around asked written.0 written.1 written.2 written.3) in
      let stands = subst (λ a. StandsFor origin first.scopes.now first.writer.now (taken first.sink.now) (faults first.sink.now) a asked s) (sym kept) begins in
      let r = ran.by served.serving
      (record { request = served.serves.request; exception = served.serves.exception ∙ ap (option_map raise_of) (sym seen); stored = served.serves.stored })
      first origin s (lent leads_here first origin s stands) in
      (r.after, r.stood)
