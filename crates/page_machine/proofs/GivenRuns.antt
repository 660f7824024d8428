-- A body or a fragment that is a code: its run in the caller's frame, and what is done behind its end.
use Rattle.std.proofs.Common.{◌≡◌, ◌≤◌, ℕ, suc, Bool, List, Option, length, Ok, refl, ap, ◌∙◌, arith}
use Rattle.out_buffer.specs.Writer.{has_committed}
use Rattle.page_machine.proofs.CallExits.{EndIs, back_on, back_thrown, given_grows, gone_back, normal_is, raised_is, ran_behind, ran_over}
use Rattle.page_machine.proofs.GivenCalls.{given_back_to, given_behind, given_enters, given_move}
use Rattle.page_machine.proofs.Room.{code_leaves, ran_room}
use Rattle.page_machine.specs.Turn.{CodeRuns, Ran, Stepped}
use Rattle.page_meaning.specs.State.{State}
use Rattle.page_meaning.specs.Went.{Did, Well, Raised}
use Rattle.page_table.specs.Calls.{copied_to_caller, given_called, in_callers_frame}
use Rattle.page_table.specs.Landing.{thrown}
use Rattle.page_table.specs.Laws.{LeavesFrames}
use Rattle.page_table.specs.Move.{Move, On}
use Rattle.page_table.specs.Open.{Open}
use Rattle.page_table.specs.Program.{Serving, Stored}
use Rattle.page_table.specs.Seat.{CallSeat, Seat, code_at, in_tag}
use Rattle.pg_text.specs.declared.place.Place.{Place}
use Rattle.pg_value.specs.declared.fault.RunFault.{RunFault}
use Rattle.run_moves.specs.Acted.{Acted}
use Rattle.run_moves.specs.declared.flow.End.{End}
use Rattle.run_moves.specs.declared.flow.End.TheVariants as ends
use Rattle.run_moves.specs.declared.flow.Flow.{Flow}
use Rattle.run_moves.specs.declared.flow.Flow.TheVariants as flows
use Rattle.run_parts.specs.Given.{given_by}
use Rattle.run_world.proofs.Knowing.{known_changed, known_done, serves_changed, serves_done}
use Rattle.run_world.specs.Known.{Known, ServesSo}
use Rattle.run_world.specs.Origin.{Origin}
use Rattle.run_world.specs.Part.{Changes, Doing}
use Rattle.run_world.specs.declared.served.Served as machine_served
use Rattle.scopes.specs.Scopes.{ScopeState}
use Rattle.site_words.specs.Law.{Answer}

module _ {W : Type 0} {reached : W → Origin → W → State → Type 0} {replies : W → List Answer} {stores : W → ((path : List ℕ) → Stored) → Type 0} {variables : W → ScopeState} {kept visits : W → ℕ} {committed : W → Bool}
    (stores_on : (first w : W) (origin : Origin) (s : State) (stored : (path : List ℕ) → Stored) → reached first origin w s → stores first stored → stores w stored)
    (again : (first w : W) (origin : Origin) (s : State) → reached first origin w s → reached w origin w s)
    (tells : (first w : W) (origin : Origin) (s : State) → reached first origin w s
    → (variables w ≡ s.scopes) × (kept w ≡ length s.writer.kept) × (visits w ≡ s.visits) × (committed w ≡ has_committed s.writer))
    (served : machine_served.Served) (c : CallSeat) (caller : Seat) (at left frame frames : ℕ) (old mid entered ran : W) (k : Known reached stores served old)
    (copies : Doing reached replies (λ (u : Unit {0}). u) (λ place s. let w : Did = Well tt (copied_to_caller c s) in w) old mid (Ok tt)) (changes : Changes reached (in_callers_frame c) mid entered) (same : replies entered ≡ replies mid)
    (current : frame ≡ (variables mid).current) (counted : frames ≡ length (variables mid).frames) (more : length (variables mid).frames ≤ length (variables entered).frames) where
  copied_known : Known reached stores served mid
  copied_known = known_done stores_on again served old mid (Ok tt) k copies

  pub given_known : Known reached stores served entered
  given_known = known_changed stores_on again served mid entered (in_callers_frame c) copied_known changes

  -- as many frames stand behind the run as before it
  pub given_room : (end : End) (ended : State → Did) → EndIs end ended → ((n : ℕ) (t : State) → LeavesFrames n (ended t) → n ≤ length t.scopes.frames)
      → Ran reached replies (ServesSo stores served) (CodeRuns caller at left) entered ran end → frames ≤ length (variables ran).frames
  given_room end ended is keeps run =
      let h = ran_room tells served (CodeRuns caller at left) (code_leaves caller at left) entered ran given_known end ended is keeps run in
      omega (arith, h, more, counted)

  module _ (place : Place) (to : ℕ) (o : Open) (name : Option (List ℕ)) (seat : Seat) (is : seat ≡ in_tag c caller) (gives : given_by name seat ≡ code_at at) (level : o.left ≡ suc left) where
    abbrev move : Serving → State → Move
    move serving s = given_called place (given_by name seat) seat to s o

    onward : (serving : Serving) → ServesSo stores served mid serving → ServesSo stores served entered serving
    onward serving h = serves_changed stores_on again served mid entered (in_callers_frame c) serving copied_known changes h

    behind_copy : (new : W) (o2 : Open) (flow : Flow) → Stepped reached replies (ServesSo stores served) seat (λ serving s. given_move place to o name seat c caller is at left s) mid new o2 flow
        → Stepped reached replies (ServesSo stores served) seat move old new o2 flow
    behind_copy new o2 flow stepped =
        given_behind place to o name seat c caller is at left gives level old mid new o2 flow copies (λ serving h. serves_done stores_on again served old mid (Ok tt) serving k copies h) stepped

    behind_run : (end : End) (ended : State → Did) → EndIs end ended → (new : W) (o2 : Open) (flow : Flow) → Ran reached replies (ServesSo stores served) (CodeRuns caller at left) entered ran end
        → ((s : State) → variables mid ≡ s.scopes → Acted reached replies (λ t. On (given_back_to place to o name seat c caller is s (ended t))) ran new o2 flow)
        → Stepped reached replies (ServesSo stores served) seat move old new o2 flow
    behind_run end ended is_end new o2 flow run acted =
        behind_copy new o2 flow
        (ran_behind seat (λ serving s. given_move place to o name seat c caller is at left s) (in_callers_frame c) (CodeRuns caller at left) (given_back_to place to o name seat c caller is) mid entered ran changes same onward
        (λ serving h first origin s stands future. given_enters place to o name seat c caller is serving at left s future) end ended is_end new o2 flow run
        (λ first origin s stands. acted s (tells first mid origin s stands).0))

    -- it ended well
    pub given_on : (new : W) → Ran reached replies (ServesSo stores served) (CodeRuns caller at left) entered ran ends.Normal → Changes reached (gone_back frames frame) ran new → replies new ≡ replies ran
        → Stepped reached replies (ServesSo stores served) seat move old new o (flows.Go to)
    given_on new run gone kept_replies =
        behind_run ends.Normal (λ t. Well tt t) normal_is new o (flows.Go to) run
        (λ s e. back_on to o s frames frame (counted ∙ ap (λ v. length v.frames) e) (current ∙ ap (λ v. v.current) e) (λ t. On (given_back_to place to o name seat c caller is s (Well tt t))) ran new (λ t. refl) gone kept_replies)

    -- by a fault
    pub given_thrown : (f : RunFault) (spot : Place) (back new : W) (o2 : Open) (flow : Flow) → Ran reached replies (ServesSo stores served) (CodeRuns caller at left) entered ran (ends.Raised f spot)
        → Changes reached (gone_back frames frame) ran back → replies back ≡ replies ran → Acted reached replies (λ s. On (thrown f spot s o)) back new o2 flow
        → Stepped reached replies (ServesSo stores served) seat move old new o2 flow
    given_thrown f spot back new o2 flow run gone kept_replies acted =
        behind_run (ends.Raised f spot) (λ t. Raised f spot t) (raised_is f spot) new o2 flow run
        (λ s e. back_thrown to o s frames frame (counted ∙ ap (λ v. length v.frames) e) (current ∙ ap (λ v. v.current) e) (λ t. On (given_back_to place to o name seat c caller is s (Raised f spot t))) f spot ran back new o2 flow
        (λ t. refl) gone kept_replies acted)

    -- it ended the page, or memory ran out
    pub given_over : (end : End) → (end ≡ ends.Normal → ⊥) → ((f : RunFault) (spot : Place) → end ≡ ends.Raised f spot → ⊥) → Ran reached replies (ServesSo stores served) (CodeRuns caller at left) entered ran end
        → Stepped reached replies (ServesSo stores served) seat move old ran o (flows.Over end)
    given_over end normal raised run =
        behind_copy ran o (flows.Over end)
        (ran_over seat (λ serving s. given_move place to o name seat c caller is at left s) (in_callers_frame c) (CodeRuns caller at left) (given_back_to place to o name seat c caller is) mid entered ran changes same onward
        (λ serving h first origin s stands future. given_enters place to o name seat c caller is serving at left s future) end o (λ s t path ps l. refl) (λ s t location e. refl) (λ s d. given_grows to o s d) normal raised run)
