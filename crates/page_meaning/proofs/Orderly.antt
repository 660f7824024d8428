-- A part of a page is orderly: it only adds, goes on under more answers, and leaves as a page may; and how such parts are joined.
use Rattle.std.proofs.Common.{◌≡◌, ◌≤◌, ℕ, Bool, true, false, List, [], ◌∷◌, Result, Ok, Err, refl, sym, ap, ◌∙◌, subst, arith}
use Rattle.pg_text.specs.declared.place.Place.{Place}
use Rattle.pg_value.specs.declared.fault.RunFault.{RunFault}
use Rattle.site_words.specs.Law.{Answer}
use Rattle.page_meaning.specs.Growth.{state_of, with_more, Grows, AsksOn, GoesOn, LeavesBy, Leaves}
use Rattle.page_meaning.specs.State.{State, with_asked}
use Rattle.site_words.specs.PageSteps.{Step}
use Rattle.page_meaning.proofs.Growing.{both, same}
use Rattle.page_meaning.specs.Went.{Went, Well, Raised, Ended, Awaits, Leaving, forwards, redirects, then_do, tidied, either, result_of}

-- one way of a part, and its ways under more answers
pub record OrderlyAt (left : ℕ) (s : State) {A : Type 0} (w : Went A) (ws : List Answer → Went A) : Type 0 where
  pub grows : Grows s (state_of w)
  pub goes_on : (more : List Answer) → GoesOn more w (ws more)
  pub leaves : Leaves left w

-- a part from every state
abbrev pub Orderly : {A : Type 0} → ℕ → (State → Went A) → Type 0
Orderly left part = (s : State) → OrderlyAt left s (part s) (λ more. part (with_more more s))

-- a change of the state that only adds and touches no answer
pub record Calm (change : State → State) : Type 0 where
  pub grows : (s : State) → Grows s (change s)
  pub kept : (s : State) (more : List Answer) → change (with_more more s) ≡ with_more more (change s)

tidied_asks : {A : Type 0} (change : State → State) → Calm change → (step : Step) (s : State) (more : List Answer) (w : Went A) → AsksOn step s more w → AsksOn step s more (tidied change w)
tidied_asks change calm step s [] w e = ap (tidied change) e
tidied_asks change calm step s (answer ∷ rest) (Well a t) g = both (with_asked step s) t (change t) g (calm.grows t)
tidied_asks change calm step s (answer ∷ rest) (Raised f place t) g = both (with_asked step s) t (change t) g (calm.grows t)
tidied_asks change calm step s (answer ∷ rest) (Ended leaving t) g = g
tidied_asks change calm step s (answer ∷ rest) (Awaits other t) g = g

module _ {left : ℕ} where
  pub well : {A : Type 0} (a : A) → Orderly left (Well a)
  well a s = record { grows = same s; goes_on = λ more. refl; leaves = tt }

  pub raised : {A : Type 0} (f : RunFault) (place : Place) → Orderly left (λ s. let w : Went A = Raised f place s in w)
  raised f place s = record { grows = same s; goes_on = λ more. refl; leaves = tt }

  pub result : {A : Type 0} (place : Place) (r : Result A RunFault) → Orderly left (result_of place r)
  result place (Ok a) s = record { grows = same s; goes_on = λ more. refl; leaves = tt }
  result place (Err f) s = record { grows = same s; goes_on = λ more. refl; leaves = tt }

  pub changed : {A : Type 0} (a : A) (change : State → State) → Calm change → Orderly left (λ s. Well a (change s))
  changed a change calm s = record { grows = calm.grows s; goes_on = λ more. ap (Well a) (calm.kept s more); leaves = tt }

  pub behind : {A : Type 0} (part : State → Went A) (change : State → State) → Calm change → Orderly left part → Orderly left (λ s. part (change s))
  behind part change calm h s =
      let at = h (change s) in
      record {
        grows = both s (change s) (state_of (part (change s))) (calm.grows s) at.grows;
        goes_on = λ more. subst (λ x. GoesOn more (part (change s)) (part x)) (sym (calm.kept s more)) (at.goes_on more);
        leaves = at.leaves;
      }

  then_grows : {A B : Type 0} (w : Went A) (go : A → State → Went B) → ((a : A) → Orderly left (go a)) → Grows (state_of w) (state_of (then_do w go))
  then_grows (Well a s) go next = (next a s).grows
  then_grows (Raised f place s) go next = same s
  then_grows (Ended leaving s) go next = same s
  then_grows (Awaits step s) go next = same s

  then_asks : {A B : Type 0} (step : Step) (s : State) (more : List Answer) (w : Went A) (go : A → State → Went B) → ((a : A) → Orderly left (go a))
      → AsksOn step s more w → AsksOn step s more (then_do w go)
  then_asks step s [] w go next e = ap (λ x. then_do x go) e
  then_asks step s (answer ∷ rest) w go next g = both (with_asked step s) (state_of w) (state_of (then_do w go)) g (then_grows w go next)

  pub then_at : {A B : Type 0} (s : State) (w : Went A) (ws : List Answer → Went A) (go : A → State → Went B) → OrderlyAt left s w ws → ((a : A) → Orderly left (go a))
      → OrderlyAt left s (then_do w go) (λ more. then_do (ws more) go)
  then_at s (Well a t) ws go h next = record {
    grows = both s t (state_of (go a t)) h.grows (next a t).grows;
    goes_on = λ more. subst (λ x. GoesOn more (go a t) (then_do x go)) (sym (h.goes_on more)) ((next a t).goes_on more);
    leaves = (next a t).leaves;
  }
  then_at s (Raised f place t) ws go h next = record { grows = h.grows; goes_on = λ more. ap (λ x. then_do x go) (h.goes_on more); leaves = tt }
  then_at s (Ended leaving t) ws go h next = record { grows = h.grows; goes_on = λ more. ap (λ x. then_do x go) (h.goes_on more); leaves = h.leaves }
  then_at s (Awaits step t) ws go h next = record {
    grows = h.grows;
    goes_on = λ more. ((h.goes_on more).0, then_asks step t more (ws more) go next (h.goes_on more).1, (h.goes_on more).2);
    leaves = tt;
  }

  -- one part after the other
  pub thens : {A B : Type 0} (part : State → Went A) (go : A → State → Went B) → Orderly left part → ((a : A) → Orderly left (go a)) → Orderly left (λ s. then_do (part s) go)
  thens part go h next s = then_at s (part s) (λ more. part (with_more more s)) go (h s) next

  pub tidied_at : {A : Type 0} (change : State → State) → Calm change → (s : State) (w : Went A) (ws : List Answer → Went A) → OrderlyAt left s w ws
      → OrderlyAt left s (tidied change w) (λ more. tidied change (ws more))
  tidied_at change calm s (Well a t) ws h = record {
    grows = both s t (change t) h.grows (calm.grows t);
    goes_on = λ more. ap (tidied change) (h.goes_on more) ∙ ap (Well a) (calm.kept t more);
    leaves = tt;
  }
  tidied_at change calm s (Raised f place t) ws h = record {
    grows = both s t (change t) h.grows (calm.grows t);
    goes_on = λ more. ap (tidied change) (h.goes_on more) ∙ ap (Raised f place) (calm.kept t more);
    leaves = tt;
  }
  tidied_at change calm s (Ended leaving t) ws h = record { grows = h.grows; goes_on = λ more. ap (tidied change) (h.goes_on more); leaves = h.leaves }
  tidied_at change calm s (Awaits step t) ws h = record {
    grows = h.grows;
    goes_on = λ more. ((h.goes_on more).0, tidied_asks change calm step t more (ws more) (h.goes_on more).1, (h.goes_on more).2);
    leaves = tt;
  }

  pub either_at : {A : Type 0} (b : Bool) (one other : State → Went A) (s : State)
      → OrderlyAt left s (one s) (λ more. one (with_more more s)) → OrderlyAt left s (other s) (λ more. other (with_more more s))
      → OrderlyAt left s (either b one other s) (λ more. either b one other (with_more more s))
  either_at true one other s h k = h
  either_at false one other s h k = k

  pub eithers : {A : Type 0} (b : Bool) (one other : State → Went A) → Orderly left one → Orderly left other → Orderly left (either b one other)
  eithers b one other h k s = either_at b one other s (h s) (k s)

-- with more levels left
leaves_more : (l left : ℕ) (leaving : Leaving) (s : State) → l ≤ left → LeavesBy l leaving s → LeavesBy left leaving s
leaves_more l left (forwards path params k) s fewer h = (omega (arith, h.0, fewer), h.1)
leaves_more l left (redirects location) s fewer h = h

pub more_at : {A : Type 0} (l left : ℕ) → l ≤ left → (s : State) (w : Went A) (ws : List Answer → Went A) → OrderlyAt l s w ws → OrderlyAt left s w ws
more_at l left fewer s (Well a t) ws h = record { grows = h.grows; goes_on = h.goes_on; leaves = tt }
more_at l left fewer s (Raised f place t) ws h = record { grows = h.grows; goes_on = h.goes_on; leaves = tt }
more_at l left fewer s (Ended leaving t) ws h = record { grows = h.grows; goes_on = h.goes_on; leaves = leaves_more l left leaving t fewer h.leaves }
more_at l left fewer s (Awaits step t) ws h = record { grows = h.grows; goes_on = h.goes_on; leaves = tt }
