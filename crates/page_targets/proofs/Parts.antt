-- Parts that never end a page, and how they are joined.
use Rattle.std.proofs.Common.{Bool, true, false, Result, Ok, Err}
use Rattle.std.specs.Prelude.{⊤}
use Rattle.pg_text.specs.declared.place.Place.{Place}
use Rattle.pg_value.specs.declared.fault.RunFault.{RunFault}
use Rattle.page_meaning.specs.State.{State}
use Rattle.page_meaning.specs.Went.{Went, Well, Raised, Ended, Awaits, then_do, either, result_of}

-- it is no end of a page
abbrev pub IsNoEnd : {A : Type 0} → Went A → Type 0
IsNoEnd (Well a s) = ⊤
IsNoEnd (Raised fault place s) = ⊤
IsNoEnd (Ended leaving s) = ⊥
IsNoEnd (Awaits step s) = ⊤

-- a part didn't end the page
pub record IsOn {A : Type 0} (w : Went A) : Type 0 where
  pub on : IsNoEnd w

-- from every state
abbrev pub GoesOn : {A : Type 0} → (State → Went A) → Type 0
GoesOn part = (s : State) → IsOn (part s)

pub well : {A : Type 0} (a : A) → GoesOn (Well a)
well a s = record { on = tt }

pub raised : {A : Type 0} (f : RunFault) (place : Place) → GoesOn (λ s. let w : Went A = Raised f place s in w)
raised f place s = record { on = tt }

pub result : {A : Type 0} (place : Place) (r : Result A RunFault) → GoesOn (result_of place r)
result place (Ok a) s = record { on = tt }
result place (Err f) s = record { on = tt }

pub changed : {A : Type 0} (a : A) (change : State → State) → GoesOn (λ s. Well a (change s))
changed a change s = record { on = tt }

pub then_on : {A B : Type 0} (w : Went A) (go : A → State → Went B) → IsOn w → ((a : A) → GoesOn (go a)) → IsOn (then_do w go)
then_on (Well a t) go h next = next a t
then_on (Raised f place t) go h next = record { on = tt }
then_on (Ended leaving t) go h next = absurd h.on
then_on (Awaits step t) go h next = record { on = tt }

-- one part after the other
pub thens : {A B : Type 0} (part : State → Went A) (go : A → State → Went B) → GoesOn part → ((a : A) → GoesOn (go a)) → GoesOn (λ s. then_do (part s) go)
thens part go h next s = then_on (part s) go (h s) next

pub either_on : {A : Type 0} (b : Bool) (one other : State → Went A) (s : State) → IsOn (one s) → IsOn (other s) → IsOn (either b one other s)
either_on true one other s h k = h
either_on false one other s h k = k

pub eithers : {A : Type 0} (b : Bool) (one other : State → Went A) → GoesOn one → GoesOn other → GoesOn (either b one other)
eithers b one other h k s = either_on b one other s (h s) (k s)
