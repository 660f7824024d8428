-- The exits of a body or a fragment that a call gives.
use Rattle.std.proofs.Common.{◌≡◌, ℕ, suc, List, Option, Some, None, Ok, Err, refl, sym, ap, ◌∙◌, subst}
use Rattle.std.specs.Prelude.{take, set}
use Rattle.std.proofs.Math.Seq.{take-length}
use Rattle.std.proofs.lemmas.List.{length-set}
use Rattle.out_buffer.specs.Writer.{put}
use Rattle.page_code.specs.Fits.{Carries}
use Rattle.page_code.specs.Shapes.{empty_shape}
use Rattle.run_moves.specs.Acted.{MoveGrows, Acted}
use Rattle.run_world.specs.Origin.{Origin}
use Rattle.run_world.specs.Part.{given, Doing}
use Rattle.run_parts.specs.Given.{given_by}
use Rattle.run_moves.specs.Landing.{failing}
use Rattle.page_machine.specs.Turn.{CodeRuns, Stepped}
use Rattle.run_moves.specs.declared.flow.End.TheVariants as ends
use Rattle.run_moves.specs.declared.flow.Flow.{Flow}
use Rattle.run_moves.specs.declared.flow.Flow.TheVariants as flows
use Rattle.run_moves.proofs.Acts.{acted_as, acted_behind, acted_fault, acted_on, acted_part_short, move_behind}
use Rattle.page_meaning.proofs.Growing.{quiet, same}
use Rattle.run_moves.proofs.Behind.{fell_at, well_at}
use Rattle.page_machine.proofs.CallExits.{stepped_behind}
use Rattle.page_machine.proofs.Calling.{Enters, into_enters}
use Rattle.page_machine.proofs.TagCalls.{deeper_none, deeper_some, goes_grows}
use Rattle.page_meaning.specs.Bodies.{put_text}
use Rattle.page_meaning.specs.Exports.{copied, is_at_fragment}
use Rattle.page_meaning.specs.Growth.{state_of, Grows}
use Rattle.page_meaning.specs.State.{State, in_scopes, in_writer}
use Rattle.page_meaning.specs.Variables.{back_to, entries_of_frame}
use Rattle.page_meaning.specs.Went.{Did, Well, Raised, tidied, then_do, result_of}
use Rattle.page_table.specs.Calls.{copied_to_caller, in_callers_frame, given_called, given_entered}
use Rattle.page_table.specs.Checked.{CallFits}
use Rattle.page_table.specs.Landing.{Config, Running, thrown, then_at as then_land, land}
use Rattle.page_table.specs.Move.{Move, On, Into}
use Rattle.page_table.specs.Open.{Open, fresh_open}
use Rattle.page_table.specs.Program.{Program, Serving}
use Rattle.page_table.specs.Seat.{CallSeat, Seat, in_page, in_tag, Given, nothing, source_text, code_at, code_of}
use Rattle.page_table.proofs.GivenFits.{GivenFits, body_fits, fragment_fits}
use Rattle.page_table.proofs.Growing.{given_goes}
use Rattle.pg_text.specs.declared.failure.Failure.{Failure}
use Rattle.pg_text.specs.declared.failure.Failure.TheVariants as failure
use Rattle.pg_text.specs.declared.place.Place.{Place}
use Rattle.pg_value.specs.declared.fault.RunFault.{RunFault}
use Rattle.pg_value.specs.declared.fault.RunFault.TheVariants as fault
use Rattle.http_in.specs.declared.params.Param.{Param}
use Rattle.scopes.specs.Scopes.{ScopeState}
use Rattle.site_words.specs.Law.{Answer}

-- a change of the state that neither asks nor commits, as a part that fails only where memory ran
-- out
module _ {W : Type 0} {reached : W → Origin → W → State → Type 0} {replies : W → List Answer} where
  pub change_failed : (change : State → State) → ((s : State) → Grows (change s) s) → (place : Place) (move : State → Move) → ((s : State) → MoveGrows s (move s)) → (p : Open) (old mid new : W) (failed : Failure RunFault)
      (o2 : Open) (flow : Flow) → Doing reached replies (λ u. u) (λ place s. let w : Did = Well tt (change s) in w) old mid (Err failed) → Acted reached replies (failing place p failed) mid new o2 flow
      → (failed ≡ failure.NoMemory → (flow ≡ flows.Over ends.NoMemory) × (new ≡ mid)) → Acted reached replies move old new o2 flow
  change_failed change back place move grows p old mid new (failure.Fault f) o2 flow does acted short =
      acted_fault {view = λ u. u} place move (failing place p (failure.Fault f)) old mid new f o2 flow (λ s t e. absurd (never s t e)) does acted
    where
      is_well : Did → Type 0
      is_well (Well u s) = Unit {0}
      is_well other = ⊥

      never : (s t : State) → (let w : Did = Well tt (change s) in w) ≡ Raised f place t → ⊥
      never s t e = subst is_well e tt
  change_failed change back place move grows p old mid new failure.NoMemory o2 flow does acted short =
      let e = short refl in
      subst (λ f. Acted reached replies move old new o2 f) (sym e.0)
      (subst (λ w. Acted reached replies move old w o2 (flows.Over ends.NoMemory)) (sym e.1)
      (acted_part_short {view = λ u. u} place move old mid o2 (λ s. move_behind (change s) s (move s) (back s) (grows s)) does))

-- what is copied to the caller leaves as many frames and the current one
back_copied : (c : CallSeat) (s : State) → back_to s.scopes (copied_to_caller c s) ≡ copied_to_caller c s
back_copied c s =
    let entries = copied is_at_fragment c.exports (entries_of_frame s.scopes s.scopes.current) (entries_of_frame s.scopes c.frame) in
    ap (λ frames. in_scopes (record s.scopes { frames = frames }) s)
    (ap (λ n. take n (set s.scopes.frames c.frame entries)) (sym (length-set s.scopes.frames c.frame entries)) ∙ take-length (set s.scopes.frames c.frame entries))

-- a text that is written leaves the variables
back_put : (before : ScopeState) (place : Place) (t : List ℕ) (u : State) → back_to before u ≡ u → tidied (back_to before) (put_text place t u) ≡ put_text place t u
back_put before place t u e = go (put t u.writer)
  where
    go : (r : _) → tidied (back_to before) (then_do (result_of place r u) (λ w s1. let d : Did = Well tt (in_writer w s1) in d)) ≡ then_do (result_of place r u) (λ w s1. let d : Did = Well tt (in_writer w s1) in d)
    go (Ok w) = ap (λ x. let d : Did = Well tt (in_writer w x) in d) e
    go (Err f) = ap (λ x. let d : Did = Raised f place x in d) e

-- a page was given nothing
page_gives : (name : Option (List ℕ)) (program : Program) (params : List Param) → given_by name (in_page program params) ≡ nothing
page_gives None program params = refl
page_gives (Some n) program params = refl

module _ (place : Place) (to : ℕ) (o : Open) (name : Option (List ℕ)) (seat : Seat) where
  given_grows : (s : State) → MoveGrows s (given_called place (given_by name seat) seat to s o)
  given_grows s = goes_grows o.left s (given_called place (given_by name seat) seat to s o) (given_goes place (given_by name seat) seat to s o)

  given_is : (g : Given) (s : State) → given_by name seat ≡ g → given_called place (given_by name seat) seat to s o ≡ given_called place g seat to s o
  given_is g s e = ap (λ x. given_called place x seat to s o) e

  module _ {W : Type 0} {reached : W → Origin → W → State → Type 0} {replies : W → List Answer} where
    -- nothing is given
    pub given_none : (w : W) → given_by name seat ≡ nothing → Acted reached replies (λ s. given_called place (given_by name seat) seat to s o) w w o (flows.Go to)
    given_none w e = acted_on (λ s. given_called place (given_by name seat) seat to s o) w o to (λ s. given_is nothing s e)

    pub given_page : (w : W) (program : Program) (params : List Param) → seat ≡ in_page program params → Acted reached replies (λ s. given_called place (given_by name seat) seat to s o) w w o (flows.Go to)
    given_page w program params e = given_none w (ap (given_by name) e ∙ page_gives name program params)

  module _ (c : CallSeat) (caller : Seat) (is : seat ≡ in_tag c caller) where
    -- a source text is given
    source_is : (t : List ℕ) (left : ℕ) (s : State) → given_by name seat ≡ source_text t → o.left ≡ suc left
        → given_called place (given_by name seat) seat to s o ≡ On (land to (λ u. o.stack) o (put_text place t (copied_to_caller c s)))
    source_is t left s e level =
        given_is (source_text t) s e ∙ ap (λ x. given_called place (source_text t) x to s o) is
        ∙ deeper_some place s o o.left left (λ left. given_entered place left (source_text t) c caller to s o) level
        ∙ ap (λ w. On (land to (λ u. o.stack) o w)) (back_put s.scopes place t (copied_to_caller c s) (back_copied c s))

    code_is : (at left : ℕ) (s : State) → given_by name seat ≡ code_at at → o.left ≡ suc left
        → given_called place (given_by name seat) seat to s o
        ≡ Into caller (Running at (in_callers_frame c (copied_to_caller c s)) (fresh_open left)) (λ d. land to (λ u. o.stack) o (tidied (back_to s.scopes) d))
    code_is at left s e level =
        given_is (code_at at) s e ∙ ap (λ x. given_called place (code_at at) x to s o) is
        ∙ deeper_some place s o o.left left (λ left. given_entered place left (code_at at) c caller to s o) level

    -- the run of a code that is given, from where what is copied stands
    abbrev pub given_move : (at left : ℕ) → State → Move
    given_move at left t = Into caller (Running at (in_callers_frame c t) (fresh_open left)) (λ d. land to (λ u. o.stack) o (tidied (back_to t.scopes) d))

    pub copied_move : (at left : ℕ) (s : State) → given_by name seat ≡ code_at at → o.left ≡ suc left
        → given_called place (given_by name seat) seat to s o ≡ given_move at left (copied_to_caller c s)
    copied_move at left s e level =
        let entries = copied is_at_fragment c.exports (entries_of_frame s.scopes s.scopes.current) (entries_of_frame s.scopes c.frame) in
        code_is at left s e level
        ∙ ap (λ n. Into caller (Running at (in_callers_frame c (copied_to_caller c s)) (fresh_open left))
        (λ d. land to (λ u. o.stack) o (tidied (λ t. in_scopes (record t.scopes { frames = take n t.scopes.frames; current = s.scopes.current }) t) d)))
        (sym (length-set s.scopes.frames c.frame entries))

    abbrev pub given_back_to : State → Did → Config
    given_back_to t d = land to (λ u. o.stack) o (tidied (back_to t.scopes) d)

    pub given_enters : (serving : Serving) (at left : ℕ) (t : State) (future : List Answer)
        → Enters serving seat (given_move at left (given future t)) (CodeRuns caller at left serving (given future (in_callers_frame c t))) (given_back_to t)
    given_enters serving at left t future = into_enters serving seat caller (Running at (in_callers_frame c (given future t)) (fresh_open left)) (given_back_to t)

    module _ {W : Type 0} {reached : W → Origin → W → State → Type 0} {replies : W → List Answer} where
      -- no level is left
      pub source_deep : (t : List ℕ) (w new : W) (o2 : Open) (flow : Flow) → given_by name seat ≡ source_text t → o.left ≡ 0 → Acted reached replies (λ s. On (thrown fault.TooDeep place s o)) w new o2 flow
          → Acted reached replies (λ s. given_called place (given_by name seat) seat to s o) w new o2 flow
      source_deep t w new o2 flow e none acted =
          acted_as (λ s. given_called place (given_by name seat) seat to s o) (λ s. On (thrown fault.TooDeep place s o)) w new o2 flow
          (λ s. given_is (source_text t) s e ∙ ap (λ x. given_called place (source_text t) x to s o) is
          ∙ deeper_none place s o o.left (λ left. given_entered place left (source_text t) c caller to s o) none) acted

      pub code_deep : (at : ℕ) (w new : W) (o2 : Open) (flow : Flow) → given_by name seat ≡ code_at at → o.left ≡ 0 → Acted reached replies (λ s. On (thrown fault.TooDeep place s o)) w new o2 flow
          → Acted reached replies (λ s. given_called place (given_by name seat) seat to s o) w new o2 flow
      code_deep at w new o2 flow e none acted =
          acted_as (λ s. given_called place (given_by name seat) seat to s o) (λ s. On (thrown fault.TooDeep place s o)) w new o2 flow
          (λ s. given_is (code_at at) s e ∙ ap (λ x. given_called place (code_at at) x to s o) is
          ∙ deeper_none place s o o.left (λ left. given_entered place left (code_at at) c caller to s o) none) acted

      -- memory ran out where variables are copied to the caller
      pub copy_failed : (old mid new : W) (failed : Failure RunFault) (o2 : Open) (flow : Flow)
          → Doing reached replies (λ u. u) (λ place s. let w : Did = Well tt (copied_to_caller c s) in w) old mid (Err failed) → Acted reached replies (failing place o failed) mid new o2 flow
          → (failed ≡ failure.NoMemory → (flow ≡ flows.Over ends.NoMemory) × (new ≡ mid)) → Acted reached replies (λ s. given_called place (given_by name seat) seat to s o) old new o2 flow
      copy_failed old mid new failed o2 flow does acted short =
          change_failed (copied_to_caller c) (λ s. quiet (copied_to_caller c s) s refl refl refl) place (λ s. given_called place (given_by name seat) seat to s o) given_grows o old mid new failed o2 flow does acted short

      -- a source text is written
      pub source_put : (t : List ℕ) (left : ℕ) (old mid new : W) → given_by name seat ≡ source_text t → o.left ≡ suc left
          → Doing reached replies (λ u. u) (λ place s. let w : Did = Well tt (copied_to_caller c s) in w) old mid (Ok tt) → Doing reached replies (λ u. u) (λ place. put_text place t) mid new (Ok tt)
          → Acted reached replies (λ s. given_called place (given_by name seat) seat to s o) old new o (flows.Go to)
      source_put t left old mid new e level copies puts =
          acted_behind place (λ s. given_called place (given_by name seat) seat to s o) (λ u. On (land to (λ v. o.stack) o (put_text place t u))) old mid new tt o (flows.Go to)
          (λ s u w. source_is t left s e level ∙ ap (λ d. On (then_land o d (λ v x. land to (λ y. o.stack) o (put_text place t x)))) w) copies
          (well_at place o (λ v x. Running to x o) mid new tt o to (λ x. refl) puts)

      pub source_failed : (t : List ℕ) (left : ℕ) (old mid between new : W) (failed : Failure RunFault) (o2 : Open) (flow : Flow) → given_by name seat ≡ source_text t → o.left ≡ suc left
          → Doing reached replies (λ u. u) (λ place s. let w : Did = Well tt (copied_to_caller c s) in w) old mid (Ok tt) → Doing reached replies (λ u. u) (λ place. put_text place t) mid between (Err failed)
          → Acted reached replies (failing place o failed) between new o2 flow → (failed ≡ failure.NoMemory → (flow ≡ flows.Over ends.NoMemory) × (new ≡ between))
          → Acted reached replies (λ s. given_called place (given_by name seat) seat to s o) old new o2 flow
      source_failed t left old mid between new failed o2 flow e level copies puts acted short =
          acted_behind place (λ s. given_called place (given_by name seat) seat to s o) (λ u. On (land to (λ v. o.stack) o (put_text place t u))) old mid new tt o2 flow
          (λ s u w. source_is t left s e level ∙ ap (λ d. On (then_land o d (λ v x. land to (λ y. o.stack) o (put_text place t x)))) w) copies
          (fell_at place o (λ v x. Running to x o) mid between new failed o2 flow (λ v x. same x) puts acted short)

-- what the call around a seat gives, by its own seat
pub gives_so : (name : Option (List ℕ)) (seat : Seat) (c : CallSeat) (caller : Seat) (g : Given) → seat ≡ in_tag c caller → g ≡ given_by name (in_tag c caller) → given_by name seat ≡ g
gives_so name seat c caller g is e = ap (given_by name) is ∙ sym e

-- what is given begins with the empty shape in the code of the caller
pub begins_given : (name : Option (List ℕ)) (c : CallSeat) (caller : Seat) (at : ℕ) → CallFits c caller → code_at at ≡ given_by name (in_tag c caller) → Carries (code_of caller) at empty_shape
begins_given None c caller at h e = subst (GivenFits (code_of caller)) (sym e) (body_fits (code_of caller) c.body c.behind h.0)
begins_given (Some name) c caller at h e = subst (GivenFits (code_of caller)) (sym e) (fragment_fits (code_of caller) name c.body c.fragments c.behind h.1)

-- the run of a code that is given, behind what is copied
pub given_behind : {W : Type 0} {reached : W → Origin → W → State → Type 0} {replies : W → List Answer} {serves : W → Serving → Type 0} (place : Place) (to : ℕ) (o : Open) (name : Option (List ℕ)) (seat : Seat) (c : CallSeat)
    (caller : Seat) (is : seat ≡ in_tag c caller) (at left : ℕ) → given_by name seat ≡ code_at at → o.left ≡ suc left → (old mid new : W) (o2 : Open) (flow : Flow)
    → Doing reached replies (λ u. u) (λ place s. let w : Did = Well tt (copied_to_caller c s) in w) old mid (Ok tt) → ((serving : Serving) → serves old serving → serves mid serving)
    → Stepped reached replies serves seat (λ serving s. given_move place to o name seat c caller is at left s) mid new o2 flow
    → Stepped reached replies serves seat (λ serving s. given_called place (given_by name seat) seat to s o) old new o2 flow
given_behind place to o name seat c caller is at left gives level old mid new o2 flow does onward stepped =
    stepped_behind {view = λ (u : Unit {0}). u} (λ serving place s. let w : Did = Well tt (copied_to_caller c s) in w) place seat (λ serving s. given_called place (given_by name seat) seat to s o)
    (λ serving s. given_move place to o name seat c caller is at left s) old mid new tt o2 flow
    (λ serving h s t w. copied_move place to o name seat c caller is at left s gives level ∙ ap (λ (d : Did). given_move place to o name seat c caller is at left (state_of d)) w) (λ serving h. does) onward stepped
