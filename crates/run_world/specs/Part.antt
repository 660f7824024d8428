-- What a call does of the meaning of a page, and what it does where memory runs out.
use Rattle.std.specs.Prelude.{◌≡◌, List, ◌++◌, Result, Ok, Err}
use Rattle.pg_text.specs.declared.failure.Failure.{Failure}
use Rattle.pg_text.specs.declared.failure.Failure.TheVariants as failure
use Rattle.pg_text.specs.declared.place.Place.{Place}
use Rattle.pg_value.specs.declared.fault.RunFault.{RunFault}
use Rattle.site_words.specs.Law.{Answer}
use Rattle.run_world.specs.Origin.{Origin}
use Rattle.page_meaning.specs.Growth.{state_of, Grows}
use Rattle.page_meaning.specs.State.{State}
use Rattle.page_meaning.specs.Went.{Went, Well, Raised}

-- with these answers still to be used
abbrev pub given : List Answer → State → State
given answers s = record s { answers = answers }

-- a part that was done went so, whatever answers are still to come: well, with a result that is
-- seen so; by a fault at its place; or, where memory ran out, no further than the part goes
abbrev pub WentSo : {A B : Type 0} → (view : A → B) → Place → (List Answer → Went B) → State → Result A (Failure RunFault) → Type 0
WentSo view place part s (Ok a) = (future : List Answer) → part future ≡ Well (view a) (given future s)
WentSo view place part s (Err (failure.Fault fault)) = (future : List Answer) → part future ≡ Raised fault place (given future s)
WentSo view place part s (Err failure.NoMemory) = (future : List Answer) → Grows s (state_of (part future))

-- a call did a part from a state: it used the answers that it got, and what stands then stands for the state in which the part went
pub record Does {A B : Type 0} (view : A → B) (part : Place → State → Went B) (stands : State → Type 0) (s : State) (old new : List Answer) (result : Result A (Failure RunFault)) : Type 0 where
  pub got : List Answer
  pub replies : new ≡ old ++ got
  pub after : State
  pub stood : stands after
  pub went : (place : Place) → WentSo view place (λ future. part place (given (got ++ future) s)) after result

-- the same of a call that leads from one world to another, for whatever states they stand for
pub record Doing {W A B : Type 0} (reached : W → Origin → W → State → Type 0) (replies : W → List Answer) (view : A → B) (part : Place → State → Went B) (old new : W)
    (result : Result A (Failure RunFault)) : Type 0 where
  pub by : (first : W) (origin : Origin) (s : State) → reached first origin old s → Does view part (reached first origin new) s (replies old) (replies new) result

-- a call made this change of the state
pub record Changes {W : Type 0} (reached : W → Origin → W → State → Type 0) (change : State → State) (old new : W) : Type 0 where
  pub by : (first : W) (origin : Origin) (s : State) → reached first origin old s → reached first origin new (change s)
