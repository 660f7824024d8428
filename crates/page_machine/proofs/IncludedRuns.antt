-- An included page: its run in a frame of its own, and what is done behind its end.
use Rattle.std.proofs.Common.{◌≡◌, ◌≤◌, ℕ, Bool, List, [], length, refl, ap, ◌∙◌, arith}
use Rattle.http_in.specs.declared.params.Param.{Param}
use Rattle.out_buffer.specs.Writer.{has_committed, with_bodies}
use Rattle.page_machine.proofs.CallExits.{EndIs, back_on, back_redirected, back_thrown, gone_back, included_grows, normal_is, raised_is, ran_behind, ran_over, redirect_is}
use Rattle.page_machine.proofs.Entering.{framed_by}
use Rattle.page_machine.proofs.PageCalls.{included_back, included_enters}
use Rattle.page_machine.proofs.Room.{changed_room, more_frames, page_leaves, ran_room}
use Rattle.page_machine.specs.Pages.{included_run}
use Rattle.page_machine.specs.Turn.{Ran, Stepped}
use Rattle.page_meaning.specs.State.{State, in_writer}
use Rattle.page_meaning.specs.Went.{Did, Well, Raised, Ended, redirects}
use Rattle.page_table.specs.Landing.{thrown}
use Rattle.page_table.specs.Laws.{LeavesFrames}
use Rattle.page_table.specs.Move.{On}
use Rattle.page_table.specs.Open.{Open}
use Rattle.page_table.specs.Program.{Program, Serving, Stored}
use Rattle.page_table.specs.Runs.{PageRuns}
use Rattle.page_table.specs.Seat.{Seat}
use Rattle.pg_text.specs.declared.place.Place.{Place}
use Rattle.pg_value.specs.declared.fault.RunFault.{RunFault}
use Rattle.run_moves.specs.Acted.{Acted}
use Rattle.run_moves.specs.declared.flow.End.{End}
use Rattle.run_moves.specs.declared.flow.End.TheVariants as ends
use Rattle.run_moves.specs.declared.flow.Flow.{Flow}
use Rattle.run_moves.specs.declared.flow.Flow.TheVariants as flows
use Rattle.run_world.proofs.Knowing.{known_changed, known_on, serves_changed}
use Rattle.run_world.specs.Known.{Known, ServesSo}
use Rattle.run_world.specs.Origin.{Origin}
use Rattle.run_world.specs.Part.{Changes}
use Rattle.run_world.specs.declared.served.Served as machine_served
use Rattle.scopes.specs.Scopes.{ScopeState}
use Rattle.site_words.specs.Law.{Answer}

-- the runs of a page
abbrev pub page_runs : Program → List Param → (left : ℕ) → Serving → State → Did → Type 0
page_runs program params left serving s d = PageRuns serving program params left s d

same_many : (n : ℕ) → n ≤ n
same_many n = omega arith

module _ {W : Type 0} {reached : W → Origin → W → State → Type 0} {stores : W → ((path : List ℕ) → Stored) → Type 0} {variables : W → ScopeState} {kept visits : W → ℕ} {committed : W → Bool}
    (replies : W → List Answer) (stores_on : (first w : W) (origin : Origin) (s : State) (stored : (path : List ℕ) → Stored) → reached first origin w s → stores first stored → stores w stored)
    (again : (first w : W) (origin : Origin) (s : State) → reached first origin w s → reached w origin w s)
    (tells : (first w : W) (origin : Origin) (s : State) → reached first origin w s
    → (variables w ≡ s.scopes) × (kept w ≡ length s.writer.kept) × (visits w ≡ s.visits) × (committed w ≡ has_committed s.writer))
    (served : machine_served.Served) (program : Program) (params : List Param) (left frame frames : ℕ) (old entered ran : W) (k : Known reached stores served old) (changes : Changes reached (framed_by []) old entered)
    (same : replies entered ≡ replies old) (current : frame ≡ (variables old).current) (counted : frames ≡ length (variables old).frames) where
  pub included_known : Known reached stores served entered
  included_known = known_changed stores_on again served old entered (framed_by []) k changes

  -- as many frames stand behind its run as before it
  pub included_room : (end : End) (ended : State → Did) → EndIs end ended → ((n : ℕ) (t : State) → LeavesFrames n (ended t) → n ≤ length t.scopes.frames) → Ran reached replies (ServesSo stores served) (page_runs program params left) entered ran end
      → frames ≤ length (variables ran).frames
  included_room end ended is keeps run =
      let h = ran_room tells served (page_runs program params left) (page_leaves program params left) entered ran included_known end ended is keeps run in
      let more = changed_room tells served (framed_by []) (λ s. more_frames s.scopes.frames []) old entered k changes in
      omega (arith, h, more, counted)

  -- and where its bodies are dropped
  pub included_left : (location : List ℕ) (bodies : ℕ) (mid : W) → Ran reached replies (ServesSo stores served) (page_runs program params left) entered ran (ends.Redirect location) → Changes reached (λ s. in_writer (with_bodies bodies s.writer) s) ran mid
      → frames ≤ length (variables mid).frames
  included_left location bodies mid run drops =
      let room = included_room (ends.Redirect location) (λ t. Ended (redirects location) t) (redirect_is location) (λ n t h. h) run in
      let r = run.by included_known.serving included_known.serves entered included_known.origin included_known.state included_known.stands in
      let known = known_on stores_on again served entered ran included_known r.after r.stood in
      let more = changed_room tells served (λ s. in_writer (with_bodies bodies s.writer) s) (λ s. same_many (length s.scopes.frames)) ran mid known drops in
      omega (arith, room, more)

  module _ (place : Place) (to : ℕ) (o : Open) (seat : Seat) where
    onward : (serving : Serving) → ServesSo stores served old serving → ServesSo stores served entered serving
    onward serving h = serves_changed stores_on again served old entered (framed_by []) serving k changes h

    behind_run : (end : End) (ended : State → Did) → EndIs end ended → (new : W) (o2 : Open) (flow : Flow) → Ran reached replies (ServesSo stores served) (page_runs program params left) entered ran end
        → ((s : State) → variables old ≡ s.scopes → kept old ≡ length s.writer.kept → Acted reached replies (λ t. On (included_back place to o s (ended t))) ran new o2 flow)
        → Stepped reached replies (ServesSo stores served) seat (λ serving s. included_run place program params left to s o) old new o2 flow
    behind_run end ended is new o2 flow run acted =
        ran_behind seat (λ serving s. included_run place program params left to s o) (framed_by []) (page_runs program params left) (included_back place to o) old entered ran changes same onward
        (λ serving h first origin s stands future. included_enters serving seat place program params left to o s future) end ended is new o2 flow run
        (λ first origin s stands. acted s (tells first old origin s stands).0 (tells first old origin s stands).1)

    -- it ended well
    pub included_on : (new : W) → Ran reached replies (ServesSo stores served) (page_runs program params left) entered ran ends.Normal → Changes reached (gone_back frames frame) ran new → replies new ≡ replies ran
        → Stepped reached replies (ServesSo stores served) seat (λ serving s. included_run place program params left to s o) old new o (flows.Go to)
    included_on new run gone kept_replies =
        behind_run ends.Normal (λ t. Well tt t) normal_is new o (flows.Go to) run
        (λ s e f. back_on to o s frames frame (counted ∙ ap (λ v. length v.frames) e) (current ∙ ap (λ v. v.current) e) (λ t. On (included_back place to o s (Well tt t))) ran new (λ t. refl) gone kept_replies)

    -- by a fault, which stands at the include
    pub included_thrown : (f : RunFault) (spot : Place) (back new : W) (o2 : Open) (flow : Flow) → Ran reached replies (ServesSo stores served) (page_runs program params left) entered ran (ends.Raised f spot) → Changes reached (gone_back frames frame) ran back
        → replies back ≡ replies ran → Acted reached replies (λ s. On (thrown f place s o)) back new o2 flow
        → Stepped reached replies (ServesSo stores served) seat (λ serving s. included_run place program params left to s o) old new o2 flow
    included_thrown f spot back new o2 flow run gone kept_replies acted =
        behind_run (ends.Raised f spot) (λ t. Raised f spot t) (raised_is f spot) new o2 flow run
        (λ s e k. back_thrown to o s frames frame (counted ∙ ap (λ v. length v.frames) e) (current ∙ ap (λ v. v.current) e) (λ t. On (included_back place to o s (Raised f spot t))) f place ran back new o2 flow
        (λ t. refl) gone kept_replies acted)

    -- by a redirect, which ends it alone
    pub included_redirected : (location : List ℕ) (bodies : ℕ) (mid new : W) → bodies ≡ kept old → Ran reached replies (ServesSo stores served) (page_runs program params left) entered ran (ends.Redirect location)
        → Changes reached (λ s. in_writer (with_bodies bodies s.writer) s) ran mid → replies mid ≡ replies ran → Changes reached (gone_back frames frame) mid new → replies new ≡ replies mid
        → Stepped reached replies (ServesSo stores served) seat (λ serving s. included_run place program params left to s o) old new o (flows.Go to)
    included_redirected location bodies mid new were run one first two second =
        behind_run (ends.Redirect location) (λ t. Ended (redirects location) t) (redirect_is location) new o (flows.Go to) run
        (λ s e f. back_redirected to o s frames frame (counted ∙ ap (λ v. length v.frames) e) (current ∙ ap (λ v. v.current) e) bodies place location ran mid new (were ∙ f) one first two second)

    -- by a forward, or memory ran out
    pub included_over : (end : End) → ((location : List ℕ) → end ≡ ends.Redirect location → ⊥) → (end ≡ ends.Normal → ⊥) → ((f : RunFault) (spot : Place) → end ≡ ends.Raised f spot → ⊥)
        → Ran reached replies (ServesSo stores served) (page_runs program params left) entered ran end
        → Stepped reached replies (ServesSo stores served) seat (λ serving s. included_run place program params left to s o) old ran o (flows.Over end)
    included_over end redirect normal raised run =
        ran_over seat (λ serving s. included_run place program params left to s o) (framed_by []) (page_runs program params left) (included_back place to o) old entered ran changes same onward
        (λ serving h first origin s stands future. included_enters serving seat place program params left to o s future) end o (λ s t path ps l. refl) (λ s t location e. absurd (redirect location e))
        (λ s d. included_grows to o place s d) normal raised run
