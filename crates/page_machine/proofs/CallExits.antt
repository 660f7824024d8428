-- Calls and includes: a run of its own is joined with what is done behind its end.
use Rattle.std.proofs.Common.{◌≡◌, ℕ, List, ◌++◌, length, Ok, Err, refl, sym, ap, ◌∙◌}
use Rattle.std.specs.Prelude.{take}
use Rattle.http_in.specs.declared.params.Param.{Param}
use Rattle.out_buffer.specs.Writer.{with_bodies}
use Rattle.run_moves.specs.Acted.{Acted}
use Rattle.run_world.specs.Origin.{Origin}
use Rattle.run_world.specs.Part.{given, Doing, Changes}
use Rattle.run_moves.specs.Landing.{failing}
use Rattle.page_machine.specs.Turn.{EndsSo, Stepped, Ran}
use Rattle.run_moves.specs.declared.flow.End.{End}
use Rattle.run_moves.specs.declared.flow.End.TheVariants as ends
use Rattle.run_moves.specs.declared.flow.Flow.{Flow}
use Rattle.run_moves.specs.declared.flow.Flow.TheVariants as flows
use Rattle.run_moves.proofs.Acts.{acted_behind, acted_changed, acted_forward, acted_redirect, then_at_grows}
use Rattle.page_meaning.proofs.Growing.{both, quiet, same}
use Rattle.run_moves.proofs.Behind.{acted_after, changes_as, changes_then, fell_at}
use Rattle.page_machine.proofs.Calling.{Enters, call_behind, call_short}
use Rattle.page_machine.proofs.Turning.{moves_turn, turns_as, turns_behind}
use Rattle.page_meaning.specs.Exports.{copied_out, given_back, is_at_end}
use Rattle.page_meaning.specs.Growth.{state_of, Grows}
use Rattle.page_meaning.specs.Includes.{included_end}
use Rattle.page_meaning.specs.State.{State, in_scopes, in_writer}
use Rattle.page_meaning.specs.Variables.{back_to}
use Rattle.page_meaning.specs.Went.{Did, Went, Well, Raised, Ended, forwards, redirects, tidied}
use Rattle.page_table.specs.Calls.{call_back}
use Rattle.page_table.specs.Landing.{Config, Running, Over, thrown, then_at, land}
use Rattle.page_table.specs.Move.{Move, On}
use Rattle.page_table.specs.Open.{Open}
use Rattle.page_table.specs.Program.{Serving}
use Rattle.page_table.specs.Runs.{config_state}
use Rattle.page_table.specs.Seat.{CallSeat, Seat}
use Rattle.page_table.proofs.Growing.{call_back_grows, included_end_grows, tidied_grows}
use Rattle.pg_text.specs.declared.failure.Failure.{Failure}
use Rattle.pg_text.specs.declared.failure.Failure.TheVariants as failure
use Rattle.pg_text.specs.declared.place.Place.{Place}
use Rattle.pg_value.specs.declared.fault.RunFault.{RunFault}
use Rattle.scopes.specs.Scopes.{ScopeState, turned_to}
use Rattle.site_words.specs.Law.{Answer}

-- an end is this end of a run
abbrev pub EndIs : End → (State → Did) → Type 1
EndIs end ended = (runs : List Answer → Did → Type 0) (t : State) → EndsSo runs end t → (future : List Answer) → runs future (ended (given future t))

pub normal_is : EndIs ends.Normal (λ t. Well tt t)
normal_is runs t h = h

pub raised_is : (f : RunFault) (place : Place) → EndIs (ends.Raised f place) (λ t. Raised f place t)
raised_is f place runs t h = h

pub forward_is : (path : List ℕ) (params : List Param) (left : ℕ) → EndIs (ends.Forward path params left) (λ t. Ended (forwards path params left) t)
forward_is path params left runs t h = h

pub redirect_is : (location : List ℕ) → EndIs (ends.Redirect location) (λ t. Ended (redirects location) t)
redirect_is location runs t h = h

module _ {W : Type 0} {reached : W → Origin → W → State → Type 0} {replies : W → List Answer} where
  -- the page around ends with the page of a run of its own
  pub left_by_forward : (w : W) (o : Open) (path : List ℕ) (params : List Param) (left : ℕ) (move : State → Move) → ((t : State) → move t ≡ On (Over (Ended (forwards path params left) t)))
      → Acted reached replies move w w o (flows.Over (ends.Forward path params left))
  left_by_forward w o path params left move e = acted_forward move (λ t. t) w w o path params left (λ a t. refl) e (record { by = λ first origin s h. h }) refl

module _ {W : Type 0} {reached : W → Origin → W → State → Type 0} {replies : W → List Answer} {serves : W → Serving → Type 0} where
  -- one move alone
  pub acted_stepped : (seat : Seat) (move : Serving → State → Move) (old new : W) (o : Open) (flow : Flow) → ((serving : Serving) → serves old serving → Acted reached replies (move serving) old new o flow)
      → Stepped reached replies serves seat move old new o flow
  acted_stepped seat move old new o flow acted = record {
    by = λ serving h first origin s stands.
        moves_turn serving seat (move serving) (reached first origin new) s o (replies old) (replies new) flow ((acted serving h).by first origin s stands);
  }

  -- a move that is at one with another
  pub stepped_as : (seat : Seat) (move other : Serving → State → Move) (old new : W) (o : Open) (flow : Flow) → ((serving : Serving) → serves old serving → (s : State) → move serving s ≡ other serving s)
      → Stepped reached replies serves seat other old new o flow → Stepped reached replies serves seat move old new o flow
  stepped_as seat move other old new o flow e stepped = record {
    by = λ serving h first origin s stands.
        let t = stepped.by serving h first origin s stands in
        record {
          got = t.got;
          replies = t.replies;
          after = t.after;
          stood = t.stood;
          turns = turns_as serving seat (λ future. move serving (given (t.got ++ future) s)) (λ future. other serving (given (t.got ++ future) s)) flow t.after o
              (λ future. e serving h (given (t.got ++ future) s)) t.turns;
        };
  }

  -- behind a part that went well
  pub stepped_behind : {A B : Type 0} {view : A → B} (part : Serving → Place → State → Went B) (place : Place) (seat : Seat) (move next : Serving → State → Move) (old mid new : W) (a : A) (o : Open) (flow : Flow)
      → ((serving : Serving) → serves old serving → (s t : State) → part serving place s ≡ Well (view a) t → move serving s ≡ next serving t)
      → ((serving : Serving) → serves old serving → Doing reached replies view (part serving) old mid (Ok a)) → ((serving : Serving) → serves old serving → serves mid serving)
      → Stepped reached replies serves seat next mid new o flow → Stepped reached replies serves seat move old new o flow
  stepped_behind part place seat move next old mid new a o flow e does onward stepped = record {
    by = λ serving h first origin s stands.
        let d = (does serving h).by first origin s stands in
        turns_behind serving seat place (move serving) (next serving) s o (replies old) (replies mid) (replies new) a flow (e serving h) d
        (stepped.by serving (onward serving h) first origin d.after d.stood);
  }

  -- behind a change
  pub stepped_after : (seat : Seat) (move next : Serving → State → Move) (change : State → State) (old mid new : W) (o : Open) (flow : Flow) → ((a : List Answer) (s : State) → change (given a s) ≡ given a (change s))
      → ((serving : Serving) → serves old serving → (s : State) → move serving s ≡ next serving (change s)) → Changes reached change old mid → replies mid ≡ replies old
      → ((serving : Serving) → serves old serving → serves mid serving) → Stepped reached replies serves seat next mid new o flow → Stepped reached replies serves seat move old new o flow
  stepped_after seat move next change old mid new o flow blind e changes same onward stepped = record {
    by = λ serving h first origin s stands.
        let t = stepped.by serving (onward serving h) first origin (change s) (changes.by first origin s stands) in
        record {
          got = t.got;
          replies = t.replies ∙ ap (λ x. x ++ t.got) same;
          after = t.after;
          stood = t.stood;
          turns = turns_as serving seat (λ future. move serving (given (t.got ++ future) s)) (λ future. next serving (given (t.got ++ future) (change s))) flow t.after o
              (λ future. e serving h (given (t.got ++ future) s) ∙ ap (next serving) (blind (t.got ++ future) s)) t.turns;
        };
  }

  module _ (seat : Seat) (move : Serving → State → Move) (change : State → State) (runs : Serving → State → Did → Type 0) (back : State → Did → Config) (old entered ran : W)
      (changes : Changes reached change old entered) (same : replies entered ≡ replies old) (onward : (serving : Serving) → serves old serving → serves entered serving)
      (enters : (serving : Serving) → serves old serving → (first : W) (origin : Origin) (s : State) → reached first origin old s → (future : List Answer)
      → Enters serving seat (move serving (given future s)) (runs serving (given future (change s))) (back s)) where
    -- the run of its own ended so, and what is done behind that
    pub ran_behind : (end : End) (ended : State → Did) → EndIs end ended → (new : W) (o : Open) (flow : Flow) → Ran reached replies serves runs entered ran end
        → ((first : W) (origin : Origin) (s : State) → reached first origin old s → Acted reached replies (λ t. On (back s (ended t))) ran new o flow) → Stepped reached replies serves seat move old new o flow
    ran_behind end ended is new o flow run behind = record {
      by = λ serving h first origin s stands.
          let r = run.by serving (onward serving h) first origin (change s) (changes.by first origin s stands) in
          call_behind serving seat (move serving) s (change s) (runs serving) (back s) (enters serving h first origin s stands) r.got r.after ended
          (is (λ future d. runs serving (given (r.got ++ future) (change s)) d) r.after r.ends) (λ t. On (back s (ended t))) (λ t. refl) (reached first origin new) o (replies old) (replies ran) (replies new) flow
          (r.replies ∙ ap (λ x. x ++ r.got) same) ((behind first origin s stands).by first origin r.after r.stood);
    }

    -- memory ran out in it
    pub ran_short : (o : Open) → ((s : State) (d : Did) → Grows (state_of d) (config_state (back s d))) → Ran reached replies serves runs entered ran ends.NoMemory
        → Stepped reached replies serves seat move old ran o (flows.Over ends.NoMemory)
    ran_short o grows run = record {
      by = λ serving h first origin s stands.
          let r = run.by serving (onward serving h) first origin (change s) (changes.by first origin s stands) in
          call_short serving seat (move serving) s (change s) (runs serving) (back s) (enters serving h first origin s stands) (grows s) (reached first origin ran) o (replies old) (replies ran)
          (record { got = r.got; replies = r.replies ∙ ap (λ x. x ++ r.got) same; after = r.after; stood = r.stood; ends = r.ends });
    }

    -- it ended in a way that ends the run around it too
    pub ran_over : (end : End) (o : Open)
        → ((s t : State) (path : List ℕ) (params : List Param) (left : ℕ) → back s (Ended (forwards path params left) t) ≡ Over (Ended (forwards path params left) t))
        → ((s t : State) (location : List ℕ) → end ≡ ends.Redirect location → back s (Ended (redirects location) t) ≡ Over (Ended (redirects location) t))
        → ((s : State) (d : Did) → Grows (state_of d) (config_state (back s d))) → (end ≡ ends.Normal → ⊥) → ((f : RunFault) (place : Place) → end ≡ ends.Raised f place → ⊥)
        → Ran reached replies serves runs entered ran end → Stepped reached replies serves seat move old ran o (flows.Over end)
    ran_over ends.Normal o forward redirect grows normal raised run = absurd (normal refl)
    ran_over (ends.Raised f place) o forward redirect grows normal raised run = absurd (raised f place refl)
    ran_over ends.NoMemory o forward redirect grows normal raised run = ran_short o grows run
    ran_over (ends.Forward path params left) o forward redirect grows normal raised run =
        ran_behind (ends.Forward path params left) (λ t. Ended (forwards path params left) t) (forward_is path params left) ran o (flows.Over (ends.Forward path params left)) run
        (λ first origin s stands. left_by_forward ran o path params left (λ t. On (back s (Ended (forwards path params left) t))) (λ t. ap On (forward s t path params left)))
    ran_over (ends.Redirect location) o forward redirect grows normal raised run =
        ran_behind (ends.Redirect location) (λ t. Ended (redirects location) t) (redirect_is location) ran o (flows.Over (ends.Redirect location)) run
        (λ first origin s stands. acted_redirect (λ t. On (back s (Ended (redirects location) t))) ran o location (λ t. ap On (redirect s t location refl)))

-- the frames of before a call
abbrev pub gone_back : (frames current : ℕ) → State → State
gone_back frames current s = in_scopes (record s.scopes { frames = take frames s.scopes.frames; current = current }) s

back_is : (frames current : ℕ) (before : ScopeState) → frames ≡ length before.frames → current ≡ before.current → (s : State) → gone_back frames current s ≡ back_to before s
back_is frames current before e f s = ap (λ n. gone_back n current s) e ∙ ap (λ n. gone_back (length before.frames) n s) f

-- the variables of a call are given back, as a part
abbrev pub given_part : State → CallSeat → Place → State → Did
given_part before c place s = Well tt (in_scopes (turned_to (given_back c.exports before.scopes c.frame (copied_out is_at_end c.exports c.frame s.scopes)) c.frame) s)

module _ {W : Type 0} {reached : W → Origin → W → State → Type 0} where
  pub back_changes : (frames current : ℕ) (before : ScopeState) (old new : W) → frames ≡ length before.frames → current ≡ before.current → Changes reached (gone_back frames current) old new
      → Changes reached (back_to before) old new
  back_changes frames current before old new e f changes = changes_as (gone_back frames current) (back_to before) old new (back_is frames current before e f) changes

module _ {W : Type 0} {reached : W → Origin → W → State → Type 0} {replies : W → List Answer} where
  module _ (to : ℕ) (o : Open) (before : State) (frames current : ℕ) (counted : frames ≡ length before.scopes.frames) (was : current ≡ before.scopes.current) where
    -- behind a run that ended well
    pub back_on : (move : State → Move) (old new : W) → ((t : State) → move t ≡ On (Running to (back_to before.scopes t) o)) → Changes reached (gone_back frames current) old new → replies new ≡ replies old
        → Acted reached replies move old new o (flows.Go to)
    back_on move old new e changes same =
        acted_changed move (back_to before.scopes) old new o to (λ a s. refl) e (back_changes frames current before.scopes old new counted was changes) same

    -- behind a run that ended by a fault
    pub back_thrown : (move : State → Move) (f : RunFault) (place : Place) (old mid new : W) (o2 : Open) (flow : Flow) → ((t : State) → move t ≡ On (thrown f place (back_to before.scopes t) o))
        → Changes reached (gone_back frames current) old mid → replies mid ≡ replies old → Acted reached replies (λ s. On (thrown f place s o)) mid new o2 flow → Acted reached replies move old new o2 flow
    back_thrown move f place old mid new o2 flow e changes same acted =
        acted_after move (λ s. On (thrown f place s o)) (back_to before.scopes) old mid new o2 flow (λ a s. refl) e (back_changes frames current before.scopes old mid counted was changes) same acted

    -- behind an included page that ended by a redirect
    pub back_redirected : (bodies : ℕ) (place : Place) (location : List ℕ) (old mid new : W) → bodies ≡ length before.writer.kept → Changes reached (λ s. in_writer (with_bodies bodies s.writer) s) old mid
        → replies mid ≡ replies old → Changes reached (gone_back frames current) mid new → replies new ≡ replies mid
        → Acted reached replies (λ t. On (land to (λ u. o.stack) o (included_end place before (Ended (redirects location) t)))) old new o (flows.Go to)
    back_redirected bodies place location old mid new e one first two second =
        acted_changed (λ t. On (land to (λ u. o.stack) o (included_end place before (Ended (redirects location) t)))) (λ t. back_to before.scopes (in_writer (with_bodies bodies t.writer) t)) old new o to
        (λ a s. refl) (λ t. ap (λ n. On (Running to (back_to before.scopes (in_writer (with_bodies n t.writer) t)) o)) (sym e))
        (changes_then (λ s. in_writer (with_bodies bodies s.writer) s) (back_to before.scopes) old mid new one (back_changes frames current before.scopes mid new counted was two)) (second ∙ first)

  -- behind a call that ended well its variables are given back
  module _ (to : ℕ) (o : Open) (before : State) (c : CallSeat) (place : Place) where
    pub back_given : (frames : ℕ) (old mid new : W) → frames ≡ length before.scopes.frames → c.frame ≡ before.scopes.current → Doing reached replies (λ u. u) (given_part before c) old mid (Ok tt)
        → Changes reached (gone_back frames c.frame) mid new → replies new ≡ replies mid
        → Acted reached replies (λ t. On (land to (λ u. o.stack) o (call_back c before (Well tt t)))) old new o (flows.Go to)
    back_given frames old mid new counted was does two second =
        acted_behind place (λ t. On (land to (λ u. o.stack) o (call_back c before (Well tt t)))) (λ t. On (Running to (back_to before.scopes t) o)) old mid new tt o (flows.Go to)
        (λ s t e. ap (λ w. On (then_at o w (λ u t. Running to (back_to before.scopes t) o))) e) does
        (acted_changed (λ t. On (Running to (back_to before.scopes t) o)) (back_to before.scopes) mid new o to (λ a s. refl) (λ t. refl)
        (back_changes frames c.frame before.scopes mid new counted was two) second)

    pub back_failed : (old mid new : W) (failed : Failure RunFault) (o2 : Open) (flow : Flow) → Doing reached replies (λ u. u) (given_part before c) old mid (Err failed)
        → Acted reached replies (failing place o failed) mid new o2 flow → (failed ≡ failure.NoMemory → (flow ≡ flows.Over ends.NoMemory) × (new ≡ mid))
        → Acted reached replies (λ t. On (land to (λ u. o.stack) o (call_back c before (Well tt t)))) old new o2 flow
    back_failed old mid new failed o2 flow does acted short =
        fell_at place o (λ u t. Running to (back_to before.scopes t) o) old mid new failed o2 flow (λ u t. quiet t (back_to before.scopes t) refl refl refl) does acted short

-- what is done behind the end of a run of its own only adds
land_grows : (to : ℕ) (o : Open) (d : Did) → Grows (state_of d) (config_state (land to (λ u. o.stack) o d))
land_grows to o d = then_at_grows o d (λ u t. Running to t o) (λ u t. same t)

pub call_grows : (to : ℕ) (o : Open) (c : CallSeat) (before : State) (d : Did) → Grows (state_of d) (config_state (land to (λ u. o.stack) o (call_back c before d)))
call_grows to o c before d =
    both (state_of d) (state_of (call_back c before d)) (config_state (land to (λ u. o.stack) o (call_back c before d))) (call_back_grows c before d) (land_grows to o (call_back c before d))

pub given_grows : (to : ℕ) (o : Open) (before : State) (d : Did) → Grows (state_of d) (config_state (land to (λ u. o.stack) o (tidied (back_to before.scopes) d)))
given_grows to o before d =
    both (state_of d) (state_of (tidied (back_to before.scopes) d)) (config_state (land to (λ u. o.stack) o (tidied (back_to before.scopes) d))) (tidied_grows before d)
    (land_grows to o (tidied (back_to before.scopes) d))

pub included_grows : (to : ℕ) (o : Open) (place : Place) (before : State) (d : Did) → Grows (state_of d) (config_state (land to (λ u. o.stack) o (included_end place before d)))
included_grows to o place before d =
    both (state_of d) (state_of (included_end place before d)) (config_state (land to (λ u. o.stack) o (included_end place before d))) (included_end_grows place before d)
    (land_grows to o (included_end place before d))
