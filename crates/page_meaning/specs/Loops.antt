-- Loops: their rounds, one after the other.
use Rattle.std.specs.Prelude.{ℕ, List, [], ◌∷◌, Option, Some, None}
use Rattle.jstl_functions.specs.Functions.{measured}
use Rattle.pg_text.specs.declared.place.Place.{Place}
use Rattle.pg_value.specs.Datum.{Datum}
use Rattle.page_meaning.specs.Attributes.{Values}
use Rattle.page_meaning.specs.Rounds.{Round, status_record}
use Rattle.page_meaning.specs.State.{State}
use Rattle.page_meaning.specs.Variables.{without_page_variable, with_page_variable}
use Rattle.page_meaning.specs.Went.{Did, Well, then_do, tidied, result_of}
use Rattle.page_meaning.specs.Work.{visit}

-- sets a variable of the current frame, where it has a name
abbrev pub with_named : Option (List ℕ) → Datum → State → State
with_named None d s = s
with_named (Some name) d s = with_page_variable name d s

-- removes it
abbrev pub without_named : Option (List ℕ) → State → State
without_named None s = s
without_named (Some name) s = without_page_variable name s

-- sets the status of a round, where it has a name: X20 where it is too large
abbrev pub set_status : Place → Option (List ℕ) → Datum → State → Did
set_status place None d s = Well tt s
set_status place (Some name) d s = then_do (result_of place (measured d) s) (λ m s1. Well tt (with_page_variable name m s1))

-- the beginning of a round: a visit, its item, and both variables
abbrev pub round_begun : Place → (variable status : Option (List ℕ)) → Values → Round → State → Did
round_begun place variable status vs r s =
    then_do (visit place s) (λ u s1. then_do (result_of place r.item s1) (λ item s2. set_status place status (status_record vs r item) (with_named variable item s2)))

-- the rounds one after the other
abbrev pub rounds_mean : Place → (variable status : Option (List ℕ)) → Values → (body : State → Did) → List Round → State → Did
rounds_mean place variable status vs body [] s = Well tt s
rounds_mean place variable status vs body (r ∷ rest) s =
    then_do (round_begun place variable status vs r s) (λ u s1. then_do (body s1) (λ u s2. rounds_mean place variable status vs body rest s2))

-- a loop: its rounds, and both variables removed behind them, also where a fault ends it
abbrev pub loop_mean : Place → (variable status : Option (List ℕ)) → Values → (body : State → Did) → List Round → State → Did
loop_mean place variable status vs body rounds s =
    tidied (λ s1. without_named status (without_named variable s1)) (rounds_mean place variable status vs body rounds s)
