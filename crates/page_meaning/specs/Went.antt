-- How a part of a page went.
use Rattle.std.specs.Prelude.{ℕ, Bool, true, false, List, Result, Ok, Err}
use Rattle.http_in.specs.declared.params.Param.{Param}
use Rattle.pg_text.specs.declared.place.Place.{Place}
use Rattle.pg_value.specs.declared.fault.RunFault.{RunFault}
use Rattle.page_meaning.specs.State.{State}
use Rattle.site_words.specs.PageSteps.{Step}

-- why a page ended before its end: a forward to a path with parameters, below which so many levels are left, or a redirect
pub data Leaving : Type 0 where
  forwards : (path : List ℕ) → (params : List Param) → (left : ℕ) → Leaving
  redirects : (location : List ℕ) → Leaving

-- how a part went: with a result, by a fault at a place, at the page's end, or at a step that has no answer yet
pub data Went (A : Type 0) : Type 0 where
  Well : A → State → Went A
  Raised : RunFault → Place → State → Went A
  Ended : Leaving → State → Went A
  Awaits : Step → State → Went A

-- how a part went that has no result
abbrev pub Did : Type 0
Did = Went Unit

-- the second part, where the first went well
abbrev pub then_do : {A B : Type 0} → Went A → (A → State → Went B) → Went B
then_do (Well a s) go = go a s
then_do (Raised fault place s) go = Raised fault place s
then_do (Ended leaving s) go = Ended leaving s
then_do (Awaits step s) go = Awaits step s

-- with a change of the state, where it went well or raised a fault
abbrev pub tidied : {A : Type 0} → (State → State) → Went A → Went A
tidied change (Well a s) = Well a (change s)
tidied change (Raised fault place s) = Raised fault place (change s)
tidied change (Ended leaving s) = Ended leaving s
tidied change (Awaits step s) = Awaits step s

-- one of two parts
abbrev pub either : {A : Type 0} → Bool → (State → Went A) → (State → Went A) → State → Went A
either true one other s = one s
either false one other s = other s

-- a table's answer, its fault raised at the place
abbrev pub result_of : {A : Type 0} → Place → Result A RunFault → State → Went A
result_of place (Ok a) s = Well a s
result_of place (Err fault) s = Raised fault place s
