-- Whatever a move does, it only adds steps and pieces, and keeps the levels that are left; a run of its own has one less.
use Rattle.std.proofs.Common.{◌≡◌, ◌-◌, ℕ, zero, suc, Bool, true, false, List, [], ◌∷◌, length, refl}
use Rattle.std.specs.Prelude.{take}
use Rattle.pg_text.specs.declared.place.Place.{Place}
use Rattle.pg_value.specs.Datum.{Datum}
use Rattle.pg_value.specs.declared.fault.RunFault.{RunFault}
use Rattle.pg_value.specs.declared.fault.RunFault.TheVariants as fault
use Rattle.page_meaning.specs.Core.{is_caught}
use Rattle.page_meaning.specs.Growth.{state_of, Grows}
use Rattle.page_meaning.specs.Loops.{without_named}
use Rattle.page_meaning.specs.State.{State}
use Rattle.page_meaning.specs.Went.{Did, Went, Well, Raised, Ended, Awaits}
use Rattle.page_table.specs.Landing.{Config, Running, Over, unwound, uncaught, cut_bodies, caught_by, one_of, thrown, then_at, land}
use Rattle.page_table.specs.Move.{Move, On, Into, Stuck, then_move, popped, popped_onto, popped_all, one_deeper}
use Rattle.page_table.specs.Open.{Loop, OpenCatch, Open}
use Rattle.page_table.specs.Runs.{config_state}
use Rattle.page_table.proofs.Records.{without_named_calm}
use Rattle.page_meaning.proofs.Growing.{both, quiet, same}

-- so many levels are left
abbrev pub LeftIs : ℕ → Config → Type 0
LeftIs k (Running pc s o) = o.left ≡ k
LeftIs k (Over d) = Unit {0}

-- on from a state, with so many levels left
pub record Onward (k : ℕ) (s : State) (c : Config) : Type 0 where
  pub grows : Grows s (config_state c)
  pub left : LeftIs k c

-- into a run of its own from a state, with so many levels left before it
pub record Inward (k : ℕ) (s : State) (first : Config) (back : Did → Config) : Type 0 where
  pub deeper : ℕ
  pub less : suc deeper ≡ k
  pub begins : Onward deeper s first
  pub backs : (d : Did) → Onward k (state_of d) (back d)

abbrev pub MoveGoes : ℕ → State → Move → Type 0
MoveGoes k s (On c) = Onward k s c
MoveGoes k s (Into callee first back) = Inward k s first back
MoveGoes k s Stuck = Unit {0}

-- on without a change, and behind a change
pub stays : (to : ℕ) (s t : State) (o : Open) (k : ℕ) → o.left ≡ k → Grows s t → Onward k s (Running to t o)
stays to s t o k e g = record { grows = g; left = e }

pub onward_behind : (k : ℕ) (s t : State) (c : Config) → Grows s t → Onward k t c → Onward k s c
onward_behind k s t c g h = record { grows = both s t (config_state c) g h.grows; left = h.left }

pub unwound_grows : (loops : List Loop) (s : State) → Grows s (unwound loops s)
unwound_grows [] s = same s
unwound_grows (l ∷ outer) s =
    let t = without_named l.variable s in
    let u = without_named l.status t in
    both s t (unwound outer u) (without_named_calm l.variable s).grows (both t u (unwound outer u) (without_named_calm l.status t).grows (unwound_grows outer u))

caught_onward : (f : RunFault) (place : Place) (s : State) (o : Open) (catches : List OpenCatch) → Onward o.left s (caught_by f place s o catches)
caught_onward f place s o [] = record { grows = unwound_grows o.loops s; left = tt }
caught_onward f place s o (c ∷ outer) =
    let t = unwound (take (length o.loops - c.loops) o.loops) s in
    record { grows = both s t (cut_bodies c.bodies t) (unwound_grows (take (length o.loops - c.loops) o.loops) s) (quiet t (cut_bodies c.bodies t) refl refl refl); left = refl }

pub one_of_onward : (b : Bool) (k : ℕ) (s : State) (c other : Config) → Onward k s c → Onward k s other → Onward k s (one_of b c other)
one_of_onward true k s c other h g = h
one_of_onward false k s c other h g = g

pub thrown_onward : (f : RunFault) (place : Place) (s : State) (o : Open) → Onward o.left s (thrown f place s o)
thrown_onward f place s o =
    one_of_onward (is_caught f) o.left s (caught_by f place s o o.catches) (uncaught f place s o) (caught_onward f place s o o.catches) (record { grows = unwound_grows o.loops s; left = tt })

pub then_at_onward : {A : Type 0} (o : Open) (s : State) (w : Went A) (go : A → State → Config) → Grows s (state_of w) → ((a : A) (t : State) → Onward o.left t (go a t)) → Onward o.left s (then_at o w go)
then_at_onward o s (Well a t) go g h = onward_behind o.left s t (go a t) g (h a t)
then_at_onward o s (Raised f place t) go g h = onward_behind o.left s t (thrown f place t o) g (thrown_onward f place t o)
then_at_onward o s (Ended leaving t) go g h = record { grows = g; left = tt }
then_at_onward o s (Awaits step t) go g h = record { grows = g; left = tt }

pub land_onward : {A : Type 0} (to : ℕ) (values : A → List Datum) (o : Open) (s : State) (w : Went A) → Grows s (state_of w) → Onward o.left s (land to values o w)
land_onward to values o s w g = then_at_onward o s w (λ a t. Running to t (record o { stack = values a })) g (λ a t. record { grows = same t; left = refl })

-- moves
pub move_behind : (k : ℕ) (s t : State) (m : Move) → Grows s t → MoveGoes k t m → MoveGoes k s m
move_behind k s t (On c) g h = onward_behind k s t c g h
move_behind k s t (Into callee first back) g h = record { deeper = h.deeper; less = h.less; begins = onward_behind h.deeper s t first g h.begins; backs = h.backs }
move_behind k s t Stuck g h = tt

pub then_move_goes : {A : Type 0} (o : Open) (s : State) (w : Went A) (go : A → State → Move) → Grows s (state_of w) → ((a : A) (t : State) → MoveGoes o.left t (go a t)) → MoveGoes o.left s (then_move o w go)
then_move_goes o s (Well a t) go g h = move_behind o.left s t (go a t) g (h a t)
then_move_goes o s (Raised f place t) go g h = onward_behind o.left s t (thrown f place t o) g (thrown_onward f place t o)
then_move_goes o s (Ended leaving t) go g h = record { grows = g; left = tt }
then_move_goes o s (Awaits step t) go g h = record { grows = g; left = tt }

pub popped_goes : (s : State) (o : Open) (stack : List Datum) (go : Datum → Open → Move) → ((d : Datum) (rest : List Datum) → MoveGoes o.left s (go d (record o { stack = rest }))) → MoveGoes o.left s (popped o stack go)
popped_goes s o [] go h = tt
popped_goes s o (d ∷ rest) go h = h d rest

popped_onto_goes : (n : ℕ) (s : State) (o : Open) (stack ds : List Datum) (go : List Datum → Open → Move)
    → ((ds rest : List Datum) → MoveGoes o.left s (go ds (record o { stack = rest }))) → MoveGoes o.left s (popped_onto n o stack ds go)
popped_onto_goes zero s o stack ds go h = h ds stack
popped_onto_goes (suc n) s o [] ds go h = tt
popped_onto_goes (suc n) s o (d ∷ stack) ds go h = popped_onto_goes n s o stack (d ∷ ds) go h

pub popped_all_goes : (n : ℕ) (s : State) (o : Open) (go : List Datum → Open → Move) → ((ds rest : List Datum) → MoveGoes o.left s (go ds (record o { stack = rest }))) → MoveGoes o.left s (popped_all n o go)
popped_all_goes n s o go h = popped_onto_goes n s o o.stack [] go h

pub deeper_goes : (place : Place) (s : State) (o : Open) (levels : ℕ) (go : (left : ℕ) → Move) → ((left : ℕ) → suc left ≡ levels → MoveGoes o.left s (go left)) → MoveGoes o.left s (one_deeper place s o levels go)
deeper_goes place s o zero go h = thrown_onward fault.TooDeep place s o
deeper_goes place s o (suc left) go h = h left refl
