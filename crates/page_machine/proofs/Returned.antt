-- What holds of a page run where it has given back what it was lent.
use Rattle.std.proofs.Common.{◌≡◌, ◌-◌, ℕ, List, Option, sym, ap, ◌∙◌, subst}
use Rattle.std.specs.Prelude.{option_map}
use Rattle.http_in.specs.declared.params.Param.{Param}
use Rattle.http_in.specs.declared.request.Request.{Request}
use Rattle.out_buffer.specs.Held.{Held, Stands}
use Rattle.out_buffer.specs.Writer.{Writer}
use Rattle.page_machine.proofs.Lending.{aside, charged_back, depth_so, given_back, in_order_aside, in_order_back, lent, page_ran, response_back, stands_aside, stands_back, stood_at}
use Rattle.page_machine.specs.Run.{DepthSo, IsInOrder, IsServed, PageRan, SeesSo, Serves, StandsFor, depth_behind, end_of, level_limit}
use Rattle.page_machine.specs.Turn.{Ran, RunFrom}
use Rattle.page_machine.specs.declared.running.RunEnd.{RunEnd}
use Rattle.page_meaning.specs.State.{State}
use Rattle.page_meaning.specs.Went.{Did}
use Rattle.page_table.specs.Program.{Program, Serving}
use Rattle.page_table.specs.Runs.{PageRuns}
use Rattle.pg_text.specs.declared.place.PageFault.{PageFault}
use Rattle.run_moves.specs.declared.flow.End.{End}
use Rattle.run_stage.specs.Keeping.{HasCharged, KeepsResponse, KeepsSession}
use Rattle.run_stage.specs.Stage.{Covered, Reached, StoresSo}
use Rattle.run_stage.specs.declared.stage.Stage.{Stage}
use Rattle.run_world.specs.Origin.{Origin}
use Rattle.run_world.specs.Seats.{raise_of}
use Rattle.run_world.specs.declared.around.Around.{Around}
use Rattle.run_world.specs.declared.program.Program as machine_program
use Rattle.run_world.specs.declared.raised.Raise.{Raise}
use Rattle.scopes.specs.Scopes.{ScopeState}
use Rattle.site_words.specs.Law.{Answer}
use Rattle.site_words.specs.Running.{Asking}
use Rattle.source_tree.specs.declared.file.File.{File}

-- each owner has again what the stage left of it; what is kept across page runs has the depth behind the run, and the fault that was set aside
pub record GivenBack {P K : Type 0} (first w : Stage P K) (end : End) (exception : Option Raise) (v : ScopeState) (h : Held) (k : K) (b a : Around) (p : P) : Type 0 where
  pub scopes : first.scopes.ghost_name ≡ w.scopes.ghost_name → v ≡ w.scopes.now
  pub writer : first.writer.ghost_name ≡ w.writer.ghost_name → h ≡ w.writer.now
  pub sink : first.sink.ghost_name ≡ w.sink.ghost_name → k ≡ w.sink.now
  pub around : first.around.ghost_name ≡ w.around.ghost_name → a ≡ b
  pub ended : b ≡ aside w.around.now (depth_behind w.around.now.depth end) exception
  pub port : first.port.ghost_name ≡ w.port.ghost_name → p ≡ w.port.now

-- what a run that is over leaves as it was, or within its limits
pub record Returned {P : Type 0} (leads_to : P → P → Type 0) (asking : P → Asking) (tree_of : P → List File) (before port : P) (old new : Around) (held left : Held) (variables : ScopeState) (result : RunEnd) : Type 0 where
  pub in_order : IsInOrder variables new (asking port)
  pub charged : HasCharged old new (asking before) (asking port)
  pub depth : DepthSo old.depth new.depth result
  pub session : KeepsSession old new
  pub response : KeepsResponse held left old new
  pub exception : new.exception ≡ old.exception
  pub tree : tree_of port ≡ tree_of before
  pub leads : leads_to before port

module _ {P K : Type 0} {taken : K → Option (List ℕ)} {faults : K → ℕ} {leads : P → P → Type 0} {asking : P → Asking} {tree : P → List File} where
  returned_from : (first w : Stage P K) (end : End) (origin : Origin) (s : State) (old : Around) (rest raised : Option Raise) (v : ScopeState) (h : Held) (k : K) (b a : Around) (p : P) (result : RunEnd)
      → first.around.now ≡ aside old old.depth rest → raised ≡ old.exception → Reached taken faults leads asking tree first origin w s
      → Covered w.scopes.now.session w.around.now.id w.around.now.visits w.around.now.charge (asking w.port.now) → GivenBack first w end raised v h k b a p → result ≡ end_of end
      → Returned leads asking tree first.port.now p old a first.writer.now h v result
  returned_from first w end origin s old rest raised v h k b a p result kept seen r covered back is =
      let now = aside w.around.now (depth_behind w.around.now.depth end) raised in
      let variables = back.scopes (sym r.same.scopes) in
      let writer = back.writer (sym r.same.writer) in
      let around : a ≡ now = back.around (sym r.same.around) ∙ back.ended in
      let port = back.port (sym r.same.port) in
      let depth : w.around.now.depth ≡ old.depth = r.depth ∙ ap (λ (x : Around). x.depth) kept in
      let charged = subst (λ x. HasCharged x w.around.now (asking first.port.now) (asking w.port.now)) kept r.charged in
      let session = subst (λ x. KeepsSession x w.around.now) kept r.session in
      let response = subst (λ x. KeepsResponse first.writer.now w.writer.now x w.around.now) kept r.response in
      record {
        in_order = in_order_back w.scopes.now v now a (asking w.port.now) (asking p) variables around (ap asking port) (in_order_aside w.scopes.now w.around.now (asking w.port.now) (depth_behind w.around.now.depth end) raised covered);
        charged = charged_back old now a (asking first.port.now) (asking w.port.now) (asking p) around (ap asking port) (record { charge = charged.charge; promise = charged.promise });
        depth = depth_so end old.depth a.depth result is (ap (λ (x : Around). x.depth) around ∙ ap (λ d. depth_behind d end) depth);
        session = subst (KeepsSession old) (sym around) (record { stays = session.stays });
        response = response_back first.writer.now w.writer.now h old now a writer around (record { head = response.head; shown = response.shown });
        exception = ap (λ (x : Around). x.exception) around ∙ seen;
        tree = ap tree port ∙ r.tree;
        leads = subst (leads first.port.now) (sym port) r.leads;
      }

  ran_from : (serving : Serving) (program : Program) (params : List Param) (left : ℕ) (first w : Stage P K) (end : End) (origin : Origin) (s : State) (old : Around) (rest raised : Option Raise) (v : ScopeState) (h : Held) (k : K) (b a : Around) (p : P) (result : RunEnd)
      → first.around.now ≡ aside old old.depth rest → left ≡ level_limit - old.depth → GivenBack first w end raised v h k b a p → result ≡ end_of end
      → RunFrom (PageRuns serving program params left) (Reached taken faults leads asking tree first origin w) s (asking first.port.now).answers (asking w.port.now).answers end
      → PageRan serving program params (level_limit - old.depth) (StandsFor origin v h (taken k) (faults k) a (asking p)) s (asking first.port.now).answers (asking p).answers a.depth result
  ran_from serving program params left first w end origin s old rest raised v h k b a p result kept levels back is run =
      let r = run.stood in
      let now = aside w.around.now (depth_behind w.around.now.depth end) raised in
      let around : a ≡ now = back.around (sym r.same.around) ∙ back.ended in
      let port = back.port (sym r.same.port) in
      let depth : w.around.now.depth ≡ old.depth = r.depth ∙ ap (λ (x : Around). x.depth) kept in
      page_ran serving program params left (level_limit - old.depth) (Reached taken faults leads asking tree first origin w) (StandsFor origin v h (taken k) (faults k) a (asking p)) s
      (asking first.port.now).answers (asking w.port.now).answers (asking p).answers end old.depth a.depth result
      (λ t reached. stands_back taken faults asking origin w.scopes.now v w.writer.now h w.sink.now k now a w.port.now p t (back.scopes (sym r.same.scopes)) (back.writer (sym r.same.writer)) (back.sink (sym r.same.sink)) around port
      (stands_aside origin w.scopes.now w.writer.now (taken w.sink.now) (faults w.sink.now) w.around.now (asking w.port.now) t (depth_behind w.around.now.depth end) raised (given_back first w origin t reached)))
      levels (ap (λ x. (asking x).answers) port) is (ap (λ (x : Around). x.depth) around ∙ ap (λ d. depth_behind d end) depth) run

module _ {P K : Type 0} {taken : K → Option (List ℕ)} {faults : K → ℕ} {leads : P → P → Type 0} {asking : P → Asking} {tree : P → List File} {made : machine_program.Program → List File → List ℕ → Type 0}
    {faulty : PageFault → List File → List ℕ → Type 0} {request : Request} {raised : Option Raise} where
  pub returned : {replies : Stage P K → List Answer} {runs : Serving → State → Did → Type 0} (first w : Stage P K) (end : End)
      → Ran (Reached taken faults leads asking tree) replies (SeesSo (λ (x : Stage P K) stored. StoresSo made faulty (tree x.port.now) stored) request raised) runs first w end → ((port : P) → leads port port)
      → (old : Around) (rest : Option Raise) → first.around.now ≡ aside old old.depth rest → raised ≡ old.exception → IsServed made faulty (tree first.port.now) request old
      → (written : (start : Option (List ℕ)) × (before : ℕ) × (writer : Writer) × Stands start before first.writer.now (taken first.sink.now) (faults first.sink.now) writer)
      → Covered w.scopes.now.session w.around.now.id w.around.now.visits w.around.now.charge (asking w.port.now)
      → (v : ScopeState) (h : Held) (k : K) (b a : Around) (p : P) → GivenBack first w end raised v h k b a p → (result : RunEnd) → result ≡ end_of end
      → Returned leads asking tree first.port.now p old a first.writer.now h v result
  returned first w end ran leads_here old rest kept seen served written covered v h k b a p back result is =
      let stood = stood_at ran leads_here old rest served seen kept written in
      returned_from first w end _ stood.0 old rest raised v h k b a p result kept seen stood.1 covered back is

  pub page_returned : (program : Program) (params : List Param) (left : ℕ) (first w : Stage P K) (end : End)
      → Ran (Reached taken faults leads asking tree) (λ (x : Stage P K). (asking x.port.now).answers) (SeesSo (λ (x : Stage P K) stored. StoresSo made faulty (tree x.port.now) stored) request raised)
      (λ serving s d. PageRuns serving program params left s d) first w end → ((port : P) → leads port port)
      → (old : Around) (rest : Option Raise) → first.around.now ≡ aside old old.depth rest → raised ≡ old.exception → left ≡ level_limit - old.depth
      → (v : ScopeState) (h : Held) (k : K) (b a : Around) (p : P) → GivenBack first w end raised v h k b a p → (result : RunEnd) → result ≡ end_of end
      → (serving : Serving) → Serves made faulty (tree first.port.now) request old serving → (origin : Origin) (s : State)
      → StandsFor origin first.scopes.now first.writer.now (taken first.sink.now) (faults first.sink.now) old (asking first.port.now) s
      → PageRan serving program params (level_limit - old.depth) (StandsFor origin v h (taken k) (faults k) a (asking p)) s (asking first.port.now).answers (asking p).answers a.depth result
  page_returned program params left first w end ran leads_here old rest kept seen levels v h k b a p back result is serving serves origin s stands =
      let begins = subst (λ x. StandsFor origin first.scopes.now first.writer.now (taken first.sink.now) (faults first.sink.now) x (asking first.port.now) s) (sym kept)
      (stands_aside origin first.scopes.now first.writer.now (taken first.sink.now) (faults first.sink.now) old (asking first.port.now) s old.depth rest stands) in
      let run = ran.by serving (record { request = serves.request; exception = serves.exception ∙ ap (option_map raise_of) (sym seen); stored = serves.stored }) first origin s (lent leads_here first origin s begins) in
      ran_from serving program params left first w end origin s old rest raised v h k b a p result kept levels back is run
