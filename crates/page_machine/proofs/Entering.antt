-- A call that is entered: its run, and what is done behind its end.
use Rattle.std.proofs.Common.{◌≡◌, ◌+◌, ◌<◌, ◌≤◌, ℕ, suc, Bool, List, length, Ok, Err, refl, ap, ◌∙◌, arith}
use Rattle.out_buffer.specs.Writer.{has_committed}
use Rattle.page_code.specs.Calls.{call_size}
use Rattle.page_code.specs.declared.call.Fragment.{Fragment}
use Rattle.page_code.specs.declared.call.TagCall.{TagCall}
use Rattle.page_machine.proofs.CallExits.{EndIs, back_failed, back_given, back_thrown, call_grows, gone_back, given_part, normal_is, raised_is, ran_behind, ran_over}
use Rattle.page_machine.proofs.Room.{changed_room, code_leaves, more_frames, ran_room}
use Rattle.page_machine.proofs.TagCalls.{call_is, call_with, entered_move, tag_back, tag_enters}
use Rattle.page_machine.specs.Turn.{CodeRuns, Ran, Stepped}
use Rattle.page_meaning.specs.Context.{Export}
use Rattle.page_meaning.specs.Exports.{exports_of}
use Rattle.page_meaning.specs.State.{State, in_scopes}
use Rattle.page_meaning.specs.Went.{Did, Well, Raised}
use Rattle.page_table.specs.Landing.{Config, thrown}
use Rattle.page_table.specs.Laws.{LeavesFrames}
use Rattle.page_table.specs.Move.{On}
use Rattle.page_table.specs.Open.{Open}
use Rattle.page_table.specs.Program.{Stored, TagCode}
use Rattle.page_table.specs.Seat.{CallSeat, Seat, in_tag}
use Rattle.pg_text.specs.declared.failure.Failure.{Failure}
use Rattle.pg_text.specs.declared.failure.Failure.TheVariants as failure
use Rattle.pg_text.specs.declared.place.Place.{Place}
use Rattle.pg_value.specs.declared.fault.RunFault.{RunFault}
use Rattle.run_moves.specs.Acted.{Acted}
use Rattle.run_moves.specs.Landing.{failing}
use Rattle.run_moves.specs.declared.flow.End.{End}
use Rattle.run_moves.specs.declared.flow.End.TheVariants as ends
use Rattle.run_moves.specs.declared.flow.Flow.{Flow}
use Rattle.run_moves.specs.declared.flow.Flow.TheVariants as flows
use Rattle.run_world.proofs.Knowing.{known_changed, serves_changed}
use Rattle.run_world.specs.Known.{Known, ServesSo}
use Rattle.run_world.specs.Origin.{Origin}
use Rattle.run_world.specs.Part.{Changes, Doing}
use Rattle.run_world.specs.declared.served.Served as machine_served
use Rattle.scopes.specs.Scopes.{Entries, ScopeState, with_frame_of}
use Rattle.site_words.specs.Law.{Answer}

-- in a frame of these variables
abbrev pub framed_by : Entries → State → State
framed_by entries s = in_scopes (with_frame_of entries s.scopes) s

module _ {W : Type 0} {reached : W → Origin → W → State → Type 0} {stores : W → ((path : List ℕ) → Stored) → Type 0} {variables : W → ScopeState} {kept visits : W → ℕ} {committed : W → Bool}
    (replies : W → List Answer) (stores_on : (first w : W) (origin : Origin) (s : State) (stored : (path : List ℕ) → Stored) → reached first origin w s → stores first stored → stores w stored)
    (again : (first w : W) (origin : Origin) (s : State) → reached first origin w s → reached w origin w s)
    (tells : (first w : W) (origin : Origin) (s : State) → reached first origin w s
    → (variables w ≡ s.scopes) × (kept w ≡ length s.writer.kept) × (visits w ≡ s.visits) × (committed w ≡ has_committed s.writer))
    (served : machine_served.Served) (place : Place) (c : TagCall) (behind : ℕ) (seat : Seat) (o : Open) (tag : TagCode) (entries : Entries) (exports : List Export) (fragments : List Fragment) (frame frames left : ℕ)
    (old entered ran : W) (k : Known reached stores served old) (changes : Changes reached (framed_by entries) old entered) (same : replies entered ≡ replies old)
    (current : frame ≡ (variables old).current) (there : frame < length (variables old).frames) (counted : frames ≡ length (variables old).frames) where
  abbrev pub inner : CallSeat
  inner = call_with tag c.body fragments behind exports frame

  pub entered_known : Known reached stores served entered
  entered_known = known_changed stores_on again served old entered (framed_by entries) k changes

  pub entered_more : length (variables old).frames ≤ length (variables entered).frames
  entered_more = changed_room tells served (framed_by entries) (λ s. more_frames s.scopes.frames entries) old entered k changes

  -- as many frames stand behind its run as before it
  pub entered_room : (end : End) (ended : State → Did) → EndIs end ended → ((n : ℕ) (t : State) → LeavesFrames n (ended t) → n ≤ length t.scopes.frames)
      → Ran reached replies (ServesSo stores served) (CodeRuns (in_tag inner seat) 0 left) entered ran end → frames ≤ length (variables ran).frames
  entered_room end ended is keeps run =
      let h = ran_room tells served (CodeRuns (in_tag inner seat) 0 left) (code_leaves (in_tag inner seat) 0 left) entered ran entered_known end ended is keeps run in
      omega (arith, h, entered_more, counted)

  module _ (to : ℕ) (size : to ≡ behind + call_size c) (level : o.left ≡ suc left) (made : exports ≡ exports_of entries tag.decl.variables) (all : fragments ≡ c.fragments) where
    abbrev back : State → Did → Config
    back s d = tag_back place c behind seat o tag entries to inner s d

    frames_are : (s : State) → variables old ≡ s.scopes → frames ≡ length s.scopes.frames
    frames_are s e = counted ∙ ap (λ v. length v.frames) e

    frame_is : (s : State) → variables old ≡ s.scopes → frame ≡ s.scopes.current
    frame_is s e = current ∙ ap (λ v. v.current) e

    behind_run : (end : End) (ended : State → Did) → EndIs end ended → (new : W) (o2 : Open) (flow : Flow) → Ran reached replies (ServesSo stores served) (CodeRuns (in_tag inner seat) 0 left) entered ran end
        → ((s : State) → variables old ≡ s.scopes → Acted reached replies (λ t. On (back s (ended t))) ran new o2 flow)
        → Stepped reached replies (ServesSo stores served) seat (λ serving s. entered_move place c behind seat o tag entries s) old new o2 flow
    behind_run end ended is new o2 flow run acted =
        ran_behind seat (λ serving s. entered_move place c behind seat o tag entries s) (framed_by entries) (CodeRuns (in_tag inner seat) 0 left) back old entered ran changes same
        (λ serving h. serves_changed stores_on again served old entered (framed_by entries) serving k changes h)
        (λ serving h first origin s stands future.
        tag_enters place c behind seat o tag entries serving left to inner level size s (call_is tag c behind entries s exports fragments frame made all (frame_is s (tells first old origin s stands).0)) future)
        end ended is new o2 flow run (λ first origin s stands. acted s (tells first old origin s stands).0)

    -- it ended well, and its variables were given back
    pub entered_on : (mid new : W) → Ran reached replies (ServesSo stores served) (CodeRuns (in_tag inner seat) 0 left) entered ran ends.Normal
        → ((s : State) → variables old ≡ s.scopes → Doing reached replies (λ u. u) (given_part s inner) ran mid (Ok tt)) → Changes reached (gone_back frames frame) mid new → replies new ≡ replies mid
        → Stepped reached replies (ServesSo stores served) seat (λ serving s. entered_move place c behind seat o tag entries s) old new o (flows.Go to)
    entered_on mid new run gives gone kept_replies =
        behind_run ends.Normal (λ t. Well tt t) normal_is new o (flows.Go to) run
        (λ s e. back_given to o s inner place frames ran mid new (frames_are s e) (frame_is s e) (gives s e) gone kept_replies)

    -- or they weren't
    pub entered_failed : (mid new : W) (failed : Failure RunFault) (o2 : Open) (flow : Flow) → Ran reached replies (ServesSo stores served) (CodeRuns (in_tag inner seat) 0 left) entered ran ends.Normal
        → ((s : State) → variables old ≡ s.scopes → Doing reached replies (λ u. u) (given_part s inner) ran mid (Err failed)) → Acted reached replies (failing place o failed) mid new o2 flow
        → (failed ≡ failure.NoMemory → (flow ≡ flows.Over ends.NoMemory) × (new ≡ mid))
        → Stepped reached replies (ServesSo stores served) seat (λ serving s. entered_move place c behind seat o tag entries s) old new o2 flow
    entered_failed mid new failed o2 flow run gives acted short =
        behind_run ends.Normal (λ t. Well tt t) normal_is new o2 flow run (λ s e. back_failed to o s inner place ran mid new failed o2 flow (gives s e) acted short)

    -- it ended by a fault
    pub entered_thrown : (f : RunFault) (at : Place) (mid new : W) (o2 : Open) (flow : Flow) → Ran reached replies (ServesSo stores served) (CodeRuns (in_tag inner seat) 0 left) entered ran (ends.Raised f at)
        → Changes reached (gone_back frames frame) ran mid → replies mid ≡ replies ran → Acted reached replies (λ s. On (thrown f at s o)) mid new o2 flow
        → Stepped reached replies (ServesSo stores served) seat (λ serving s. entered_move place c behind seat o tag entries s) old new o2 flow
    entered_thrown f at mid new o2 flow run gone kept_replies acted =
        behind_run (ends.Raised f at) (λ t. Raised f at t) (raised_is f at) new o2 flow run
        (λ s e. back_thrown to o s frames frame (frames_are s e) (frame_is s e) (λ t. On (back s (Raised f at t))) f at ran mid new o2 flow (λ t. refl) gone kept_replies acted)

    -- it ended the page, or memory ran out
    pub entered_over : (end : End) → (end ≡ ends.Normal → ⊥) → ((f : RunFault) (at : Place) → end ≡ ends.Raised f at → ⊥)
        → Ran reached replies (ServesSo stores served) (CodeRuns (in_tag inner seat) 0 left) entered ran end
        → Stepped reached replies (ServesSo stores served) seat (λ serving s. entered_move place c behind seat o tag entries s) old ran o (flows.Over end)
    entered_over end normal raised run =
        ran_over seat (λ serving s. entered_move place c behind seat o tag entries s) (framed_by entries) (CodeRuns (in_tag inner seat) 0 left) back old entered ran changes same
        (λ serving h. serves_changed stores_on again served old entered (framed_by entries) serving k changes h)
        (λ serving h first origin s stands future.
        tag_enters place c behind seat o tag entries serving left to inner level size s (call_is tag c behind entries s exports fragments frame made all (frame_is s (tells first old origin s stands).0)) future)
        end o (λ s t path ps l. refl) (λ s t location e. refl) (λ s d. call_grows to o inner s d) normal raised run
