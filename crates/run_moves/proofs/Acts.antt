-- How calls that each do a part of a move are joined.
use Rattle.std.proofs.Common.{◌≡◌, ◌-◌, ℕ, Bool, true, false, List, [], ◌∷◌, ◌++◌, length, Ok, Err, refl, sym, ap, ◌∙◌, subst, append_assoc, append-nil}
use Rattle.std.specs.Prelude.{take, Option, Some, None}
use Rattle.http_in.specs.declared.params.Param.{Param}
use Rattle.run_moves.specs.Acted.{MoveGrows, LedSo, Acted}
use Rattle.run_world.specs.Part.{given, Doing, Changes}
use Rattle.run_moves.specs.declared.flow.End.TheVariants as ends
use Rattle.run_moves.specs.declared.flow.Flow.{Flow}
use Rattle.run_moves.specs.declared.flow.Flow.TheVariants as flows
use Rattle.page_meaning.proofs.Growing.{both, quiet, same}
use Rattle.run_world.specs.Origin.{Origin}
use Rattle.page_meaning.specs.Core.{is_caught}
use Rattle.page_meaning.specs.Growth.{state_of, Grows}
use Rattle.page_meaning.specs.Loops.{without_named}
use Rattle.page_meaning.specs.State.{State}
use Rattle.page_meaning.specs.Went.{Went, Well, Raised, Ended, Awaits, forwards, redirects}
use Rattle.page_table.specs.Landing.{Config, Running, Over, unwound, uncaught, caught_by, cut_bodies, one_of, thrown, then_at}
use Rattle.page_table.specs.Move.{Move, On, Into, Stuck}
use Rattle.page_table.specs.Open.{Loop, OpenCatch, Open}
use Rattle.page_table.specs.Runs.{config_state}
use Rattle.pg_text.specs.declared.failure.Failure.TheVariants as failure
use Rattle.pg_text.specs.declared.place.Place.{Place}
use Rattle.pg_value.specs.declared.fault.RunFault.{RunFault}
use Rattle.site_words.specs.Law.{Answer}

-- a move only adds

without_grows : (name : Option (List ℕ)) (s : State) → Grows s (without_named name s)
without_grows None s = same s
without_grows (Some n) s = quiet s (without_named (Some n) s) refl refl refl

pub unwound_grows : (loops : List Loop) (s : State) → Grows s (unwound loops s)
unwound_grows [] s = same s
unwound_grows (l ∷ outer) s =
    let t = without_named l.variable s in
    let u = without_named l.status t in
    both s t (unwound outer u) (without_grows l.variable s) (both t u (unwound outer u) (without_grows l.status t) (unwound_grows outer u))

caught_grows : (f : RunFault) (place : Place) (s : State) (o : Open) (cs : List OpenCatch) → Grows s (config_state (caught_by f place s o cs))
caught_grows f place s o [] = unwound_grows o.loops s
caught_grows f place s o (c ∷ outer) =
    let t = unwound (take (length o.loops - c.loops) o.loops) s in
    both s t (cut_bodies c.bodies t) (unwound_grows (take (length o.loops - c.loops) o.loops) s) (quiet t (cut_bodies c.bodies t) refl refl refl)

pub one_of_grows : (b : Bool) (s : State) (c other : Config) → Grows s (config_state c) → Grows s (config_state other) → Grows s (config_state (one_of b c other))
one_of_grows true s c other h k = h
one_of_grows false s c other h k = k

pub thrown_grows : (f : RunFault) (place : Place) (s : State) (o : Open) → Grows s (config_state (thrown f place s o))
thrown_grows f place s o = one_of_grows (is_caught f) s (caught_by f place s o o.catches) (uncaught f place s o) (caught_grows f place s o o.catches) (unwound_grows o.loops s)

-- from where a part went on
pub then_at_grows : {A : Type 0} (o : Open) (w : Went A) (go : A → State → Config) → ((a : A) (t : State) → Grows t (config_state (go a t))) → Grows (state_of w) (config_state (then_at o w go))
then_at_grows o (Well a t) go h = h a t
then_at_grows o (Raised f place t) go h = thrown_grows f place t o
then_at_grows o (Ended leaving t) go h = same t
then_at_grows o (Awaits step t) go h = same t

pub move_given : (a : List Answer) (s : State) (m : Move) → MoveGrows (given a s) m → MoveGrows s m
move_given a s (On c) g = record { asked = g.asked; order = g.order; pieces = g.pieces; session = g.session }
move_given a s (Into callee first back) g = (record { asked = g.0.asked; order = g.0.order; pieces = g.0.pieces; session = g.0.session }, g.1)
move_given a s Stuck g = tt

pub move_behind : (s t : State) (m : Move) → Grows s t → MoveGrows t m → MoveGrows s m
move_behind s t (On c) g h = both s t (config_state c) g h
move_behind s t (Into callee first back) g h = (both s t (config_state first) g h.0, h.1)
move_behind s t Stuck g h = tt

-- a move that is at one with another leads where that leads
pub led_as : (m other : List Answer → Move) (flow : Flow) (s : State) (o : Open) → ((future : List Answer) → m future ≡ other future) → LedSo other flow s o → LedSo m flow s o
led_as m other (flows.Go to) s o e h = λ future. e future ∙ h future
led_as m other (flows.Over ends.Normal) s o e h = λ future. e future ∙ h future
led_as m other (flows.Over (ends.Forward path params left)) s o e h = λ future. e future ∙ h future
led_as m other (flows.Over (ends.Redirect location)) s o e h = λ future. e future ∙ h future
led_as m other (flows.Over (ends.Raised fault place)) s o e h = λ future. e future ∙ h future
led_as m other (flows.Over ends.NoMemory) s o e h = λ future. subst (MoveGrows s) (sym (e future)) (h future)

module _ {W : Type 0} {reached : W → Origin → W → State → Type 0} {replies : W → List Answer} where
  pub acted_as : (move other : State → Move) (old new : W) (o : Open) (flow : Flow) → ((s : State) → move s ≡ other s) → Acted reached replies other old new o flow → Acted reached replies move old new o flow
  acted_as move other old new o flow e acted = record {
    by = λ first origin s stands.
        let a = acted.by first origin s stands in
        record { got = a.got; replies = a.replies; after = a.after; stood = a.stood; led = led_as _ _ flow a.after o (λ future. e (given (a.got ++ future) s)) a.led };
  }

  -- nothing is done but to go on
  pub acted_on : (move : State → Move) (w : W) (o : Open) (to : ℕ) → ((s : State) → move s ≡ On (Running to s o)) → Acted reached replies move w w o (flows.Go to)
  acted_on move w o to e = record { by = λ first origin s stands. record { got = []; replies = sym (append-nil (replies w)); after = s; stood = stands; led = λ future. e (given future s) } }

  -- the state is changed, and it goes on
  pub acted_changed : (move : State → Move) (change : State → State) (old new : W) (o : Open) (to : ℕ) → ((a : List Answer) (s : State) → change (given a s) ≡ given a (change s))
      → ((s : State) → move s ≡ On (Running to (change s) o)) → Changes reached change old new → replies new ≡ replies old → Acted reached replies move old new o (flows.Go to)
  acted_changed move change old new o to blind e changes same = record {
    by = λ first origin s stands. record {
      got = [];
      replies = same ∙ sym (append-nil (replies old));
      after = change s;
      stood = changes.by first origin s stands;
      led = λ future. e (given future s) ∙ ap (λ t. On (Running to t o)) (blind future s);
    };
  }

  -- memory ran out before anything was done
  pub acted_short : (move : State → Move) (w : W) (o : Open) → ((s : State) → MoveGrows s (move s)) → Acted reached replies move w w o (flows.Over ends.NoMemory)
  acted_short move w o grows = record {
    by = λ first origin s stands. record {
      got = [];
      replies = sym (append-nil (replies w));
      after = s;
      stood = stands;
      led = λ future. move_given future s (move (given future s)) (grows (given future s));
    };
  }

  -- memory ran out in a part
  pub acted_part_short : {A B : Type 0} {view : A → B} {part : Place → State → Went B} (place : Place) (move : State → Move) (old new : W) (o : Open)
      → ((s : State) → MoveGrows (state_of (part place s)) (move s)) → Doing reached replies view part old new (Err failure.NoMemory) → Acted reached replies move old new o (flows.Over ends.NoMemory)
  acted_part_short {part = part} place move old new o grows does = record {
    by = λ first origin s stands.
        let d = does.by first origin s stands in
        record {
          got = d.got;
          replies = d.replies;
          after = d.after;
          stood = d.stood;
          led = λ future. move_behind d.after (state_of (part place (given (d.got ++ future) s))) (move (given (d.got ++ future) s)) (d.went place future) (grows (given (d.got ++ future) s));
        };
  }

  -- behind a part, which went well or raised a fault
  pub acted_behind : {A B : Type 0} {view : A → B} {part : Place → State → Went B} (place : Place) (move next : State → Move) (old mid new : W) (a : A) (o : Open) (flow : Flow)
      → ((s t : State) → part place s ≡ Well (view a) t → move s ≡ next t) → Doing reached replies view part old mid (Ok a) → Acted reached replies next mid new o flow → Acted reached replies move old new o flow
  acted_behind {A} {B} {view} {part} place move next old mid new a o flow e does acted = record {
    by = λ first origin s stands.
        let d = does.by first origin s stands in
        let n = acted.by first origin d.after d.stood in
        record {
          got = d.got ++ n.got;
          replies = n.replies ∙ ap (λ x. x ++ n.got) d.replies ∙ append_assoc (replies old) d.got n.got;
          after = n.after;
          stood = n.stood;
          led = led_as _ _ flow n.after o (λ future. ap (λ x. move (given x s)) (append_assoc d.got n.got future) ∙ e (given (d.got ++ (n.got ++ future)) s) (given (n.got ++ future) d.after) (d.went place (n.got ++ future))) n.led;
        };
  }

  pub acted_fault : {A B : Type 0} {view : A → B} {part : Place → State → Went B} (place : Place) (move next : State → Move) (old mid new : W) (f : RunFault) (o : Open) (flow : Flow)
      → ((s t : State) → part place s ≡ Raised f place t → move s ≡ next t) → Doing reached replies view part old mid (Err (failure.Fault f)) → Acted reached replies next mid new o flow
      → Acted reached replies move old new o flow
  acted_fault {A} {B} {view} {part} place move next old mid new f o flow e does acted = record {
    by = λ first origin s stands.
        let d = does.by first origin s stands in
        let n = acted.by first origin d.after d.stood in
        record {
          got = d.got ++ n.got;
          replies = n.replies ∙ ap (λ x. x ++ n.got) d.replies ∙ append_assoc (replies old) d.got n.got;
          after = n.after;
          stood = n.stood;
          led = led_as _ _ flow n.after o (λ future. ap (λ x. move (given x s)) (append_assoc d.got n.got future) ∙ e (given (d.got ++ (n.got ++ future)) s) (given (n.got ++ future) d.after) (d.went place (n.got ++ future))) n.led;
        };
  }

  -- the state is changed, and the run is over by a fault
  pub acted_raised : (move : State → Move) (change : State → State) (old new : W) (o : Open) (f : RunFault) (place : Place) → ((a : List Answer) (s : State) → change (given a s) ≡ given a (change s))
      → ((s : State) → move s ≡ On (Over (Raised f place (change s)))) → Changes reached change old new → replies new ≡ replies old → Acted reached replies move old new o (flows.Over (ends.Raised f place))
  acted_raised move change old new o f place blind e changes same = record {
    by = λ first origin s stands. record {
      got = [];
      replies = same ∙ sym (append-nil (replies old));
      after = change s;
      stood = changes.by first origin s stands;
      led = λ future. e (given future s) ∙ ap (λ t. On (Over (Raised f place t))) (blind future s);
    };
  }

  -- the state is changed, and the page is left
  pub acted_forward : (move : State → Move) (change : State → State) (old new : W) (o : Open) (path : List ℕ) (params : List Param) (left : ℕ)
      → ((a : List Answer) (s : State) → change (given a s) ≡ given a (change s)) → ((s : State) → move s ≡ On (Over (Ended (forwards path params left) (change s)))) → Changes reached change old new
      → replies new ≡ replies old → Acted reached replies move old new o (flows.Over (ends.Forward path params left))
  acted_forward move change old new o path params left blind e changes same = record {
    by = λ first origin s stands. record {
      got = [];
      replies = same ∙ sym (append-nil (replies old));
      after = change s;
      stood = changes.by first origin s stands;
      led = λ future. e (given future s) ∙ ap (λ t. On (Over (Ended (forwards path params left) t))) (blind future s);
    };
  }

  pub acted_redirect : (move : State → Move) (w : W) (o : Open) (location : List ℕ) → ((s : State) → move s ≡ On (Over (Ended (redirects location) s)))
      → Acted reached replies move w w o (flows.Over (ends.Redirect location))
  acted_redirect move w o location e = record {
    by = λ first origin s stands. record {
      got = [];
      replies = sym (append-nil (replies w));
      after = s;
      stood = stands;
      led = λ future. e (given future s);
    };
  }
