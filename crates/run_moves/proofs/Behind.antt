-- A part, and what is done behind it.
use Rattle.std.proofs.Common.{◌≡◌, ℕ, List, [], ◌++◌, Ok, Err, refl, sym, ap, ◌∙◌, subst, append-nil}
use Rattle.run_moves.specs.Acted.{MoveGrows, Acted, ActedFor}
use Rattle.run_world.specs.Origin.{Origin}
use Rattle.run_world.specs.Part.{given, Doing, Changes}
use Rattle.run_moves.specs.Landing.{failing}
use Rattle.run_moves.specs.declared.flow.End.TheVariants as ends
use Rattle.run_moves.specs.declared.flow.Flow.{Flow}
use Rattle.run_moves.specs.declared.flow.Flow.TheVariants as flows
use Rattle.run_moves.proofs.Acts.{acted_behind, acted_fault, acted_on, acted_part_short, acted_short, led_as, move_given, then_at_grows, thrown_grows}
use Rattle.page_meaning.proofs.Growing.{same}
use Rattle.page_meaning.specs.Growth.{state_of, Grows}
use Rattle.page_meaning.specs.State.{State}
use Rattle.page_meaning.specs.Went.{Went, Well, Raised, Ended, Awaits}
use Rattle.page_code.specs.declared.instr.Instr.{Instr}
use Rattle.page_table.specs.Act.{act}
use Rattle.page_table.specs.Landing.{Config, Running, Over, then_at}
use Rattle.page_table.specs.Move.{Move, On, then_move}
use Rattle.page_table.specs.Open.{Open}
use Rattle.page_table.specs.Program.{Serving}
use Rattle.page_table.specs.Runs.{config_state}
use Rattle.page_table.specs.Seat.{Seat}
use Rattle.pg_text.specs.declared.failure.Failure.{Failure}
use Rattle.pg_text.specs.declared.failure.Failure.TheVariants as failure
use Rattle.pg_text.specs.declared.place.Place.{Place}
use Rattle.pg_value.specs.declared.fault.RunFault.{RunFault}
use Rattle.site_words.specs.Law.{Answer}

pub then_move_grows : {A : Type 0} (o : Open) (w : Went A) (go : A → State → Move) → ((a : A) (t : State) → MoveGrows t (go a t)) → MoveGrows (state_of w) (then_move o w go)
then_move_grows o (Well a t) go h = h a t
then_move_grows o (Raised f place t) go h = thrown_grows f place t o
then_move_grows o (Ended leaving t) go h = same t
then_move_grows o (Awaits step t) go h = same t

module _ {W : Type 0} {reached : W → Origin → W → State → Type 0} {replies : W → List Answer} where
  -- memory ran out after a change that is none
  pub acted_spent : (move : State → Move) (old new : W) (o : Open) → ((s : State) → MoveGrows s (move s)) → Changes reached (λ s. s) old new → replies new ≡ replies old
      → Acted reached replies move old new o (flows.Over ends.NoMemory)
  acted_spent move old new o grows changes same = record {
    by = λ first origin s stands. record {
      got = [];
      replies = same ∙ sym (append-nil (replies old));
      after = s;
      stood = changes.by first origin s stands;
      led = λ future. move_given future s (move (given future s)) (grows (given future s));
    };
  }

  -- nothing is done but to go on, from the states for which the world stands
  pub acted_where : (move : State → Move) (w : W) (o : Open) (to : ℕ)
      → ((first : W) (origin : Origin) (s : State) → reached first origin w s → (a : List Answer) → move (given a s) ≡ On (Running to (given a s) o)) → Acted reached replies move w w o (flows.Go to)
  acted_where move w o to e = record {
    by = λ first origin s stands. record { got = []; replies = sym (append-nil (replies w)); after = s; stood = stands; led = λ future. e first origin s stands future };
  }

  module _ {A B : Type 0} {view : A → B} {part : Place → State → Went B} (place : Place) (o : Open) where
    -- a part that went well, and a place at which the run goes on
    pub well_at : (go : B → State → Config) (old new : W) (a : A) (o2 : Open) (to : ℕ) → ((t : State) → go (view a) t ≡ Running to t o2) → Doing reached replies view part old new (Ok a)
        → Acted reached replies (λ s. On (then_at o (part place s) go)) old new o2 (flows.Go to)
    well_at go old new a o2 to e does =
        acted_behind place (λ s. On (then_at o (part place s) go)) (λ t. On (go (view a) t)) old new new a o2 (flows.Go to) (λ s t w. ap (λ x. On (then_at o x go)) w) does
        (acted_on (λ t. On (go (view a) t)) new o2 to (λ t. ap On (e t)))

    -- memory ran out after a part that went well
    pub well_short : (go : B → State → Config) (old new : W) (a : A) (o2 : Open) → ((b : B) (t : State) → Grows t (config_state (go b t))) → Doing reached replies view part old new (Ok a)
        → Acted reached replies (λ s. On (then_at o (part place s) go)) old new o2 (flows.Over ends.NoMemory)
    well_short go old new a o2 grows does =
        acted_behind place (λ s. On (then_at o (part place s) go)) (λ t. On (go (view a) t)) old new new a o2 (flows.Over ends.NoMemory) (λ s t w. ap (λ x. On (then_at o x go)) w) does
        (acted_short (λ t. On (go (view a) t)) new o2 (λ t. grows (view a) t))

    -- a part that failed, and where that leads
    pub fell_at : (go : B → State → Config) (old mid new : W) (failed : Failure RunFault) (o2 : Open) (flow : Flow) → ((b : B) (t : State) → Grows t (config_state (go b t)))
        → Doing reached replies view part old mid (Err failed) → Acted reached replies (failing place o failed) mid new o2 flow → (failed ≡ failure.NoMemory → (flow ≡ flows.Over ends.NoMemory) × (new ≡ mid))
        → Acted reached replies (λ s. On (then_at o (part place s) go)) old new o2 flow
    fell_at go old mid new (failure.Fault f) o2 flow grows does acted short =
        acted_fault place (λ s. On (then_at o (part place s) go)) (failing place o (failure.Fault f)) old mid new f o2 flow (λ s t w. ap (λ x. On (then_at o x go)) w) does acted
    fell_at go old mid new failure.NoMemory o2 flow grows does acted short =
        let e = short refl in
        subst (λ f. Acted reached replies (λ s. On (then_at o (part place s) go)) old new o2 f) (sym e.0)
        (subst (λ w. Acted reached replies (λ s. On (then_at o (part place s) go)) old w o2 (flows.Over ends.NoMemory)) (sym e.1)
        (acted_part_short place (λ s. On (then_at o (part place s) go)) old mid o2 (λ s. then_at_grows o (part place s) go grows) does))

    -- the same of a part behind which a move follows
    pub well_move : (go : B → State → Move) (old mid new : W) (a : A) (o2 : Open) (flow : Flow) → Doing reached replies view part old mid (Ok a) → Acted reached replies (go (view a)) mid new o2 flow
        → Acted reached replies (λ s. then_move o (part place s) go) old new o2 flow
    well_move go old mid new a o2 flow does acted =
        acted_behind place (λ s. then_move o (part place s) go) (go (view a)) old mid new a o2 flow (λ s t w. ap (λ x. then_move o x go) w) does acted

    pub fell_move : (go : B → State → Move) (old mid new : W) (failed : Failure RunFault) (o2 : Open) (flow : Flow) → ((b : B) (t : State) → MoveGrows t (go b t))
        → Doing reached replies view part old mid (Err failed) → Acted reached replies (failing place o failed) mid new o2 flow → (failed ≡ failure.NoMemory → (flow ≡ flows.Over ends.NoMemory) × (new ≡ mid))
        → Acted reached replies (λ s. then_move o (part place s) go) old new o2 flow
    fell_move go old mid new (failure.Fault f) o2 flow grows does acted short =
        acted_fault place (λ s. then_move o (part place s) go) (failing place o (failure.Fault f)) old mid new f o2 flow (λ s t w. ap (λ x. then_move o x go) w) does acted
    fell_move go old mid new failure.NoMemory o2 flow grows does acted short =
        let e = short refl in
        subst (λ f. Acted reached replies (λ s. then_move o (part place s) go) old new o2 f) (sym e.0)
        (subst (λ w. Acted reached replies (λ s. then_move o (part place s) go) old w o2 (flows.Over ends.NoMemory)) (sym e.1)
        (acted_part_short place (λ s. then_move o (part place s) go) old mid o2 (λ s. then_move_grows o (part place s) go grows) does))

-- changes one after the other
pub changes_then : {W : Type 0} {reached : W → Origin → W → State → Type 0} (change other : State → State) (old mid new : W) → Changes reached change old mid → Changes reached other mid new
    → Changes reached (λ s. other (change s)) old new
changes_then change other old mid new one two = record { by = λ first origin s h. two.by first origin (change s) (one.by first origin s h) }

pub changes_as : {W : Type 0} {reached : W → Origin → W → State → Type 0} (change other : State → State) (old new : W) → ((s : State) → change s ≡ other s) → Changes reached change old new
    → Changes reached other old new
changes_as {reached = reached} change other old new e one = record { by = λ first origin s h. subst (reached first origin new) (e s) (one.by first origin s h) }

-- what is done behind a change
pub acted_after : {W : Type 0} {reached : W → Origin → W → State → Type 0} {replies : W → List Answer} (move next : State → Move) (change : State → State) (old mid new : W) (o : Open) (flow : Flow)
    → ((a : List Answer) (s : State) → change (given a s) ≡ given a (change s)) → ((s : State) → move s ≡ next (change s)) → Changes reached change old mid → replies mid ≡ replies old
    → Acted reached replies next mid new o flow → Acted reached replies move old new o flow
acted_after move next change old mid new o flow blind e changes same acted = record {
  by = λ first origin s stands.
      let n = acted.by first origin (change s) (changes.by first origin s stands) in
      record {
        got = n.got;
        replies = n.replies ∙ ap (λ x. x ++ n.got) same;
        after = n.after;
        stood = n.stood;
        led = led_as _ _ flow n.after o (λ future. e (given (n.got ++ future) s) ∙ ap next (blind (n.got ++ future) s)) n.led;
      };
}

-- an instruction that is this one
pub act_for : {W : Type 0} {reached : W → Origin → W → State → Type 0} {replies : W → List Answer} {serves : W → Serving → Type 0} (seat : Seat) (place : Place) (pc : ℕ) (o : Open) (i this : Instr) (old new : W) (o2 : Open)
    (flow : Flow) → i ≡ this → ActedFor reached replies serves (λ serving s. act serving seat place pc s o this) old new o2 flow → ActedFor reached replies serves (λ serving s. act serving seat place pc s o i) old new o2 flow
act_for {reached = reached} {replies = replies} {serves = serves} seat place pc o i this old new o2 flow e acted =
    subst (λ x. ActedFor reached replies serves (λ serving s. act serving seat place pc s o x) old new o2 flow) (sym e) acted

pub act_plain : {W : Type 0} {reached : W → Origin → W → State → Type 0} {replies : W → List Answer} {serves : W → Serving → Type 0} (seat : Seat) (place : Place) (pc : ℕ) (o : Open) (i this : Instr) (old new : W)
    (o2 : Open) (flow : Flow) → i ≡ this → ((serving : Serving) → Acted reached replies (λ s. act serving seat place pc s o this) old new o2 flow)
    → ActedFor reached replies serves (λ serving s. act serving seat place pc s o i) old new o2 flow
act_plain seat place pc o i this old new o2 flow e acted = act_for seat place pc o i this old new o2 flow e (record { for = λ serving h. acted serving })

-- a code is at its end
pub acted_normal : {W : Type 0} {reached : W → Origin → W → State → Type 0} {replies : W → List Answer} (move : State → Move) (w : W) (o : Open) → ((s : State) → move s ≡ On (Over (Well tt s)))
    → Acted reached replies move w w o (flows.Over ends.Normal)
acted_normal {replies = replies} move w o e = record {
  by = λ first origin s stands. record { got = []; replies = sym (append-nil (replies w)); after = s; stood = stands; led = λ future. e (given future s) };
}
