-- The beginning of a round counts one visit.
use Rattle.std.proofs.Common.{◌≡◌, ◌+◌, ◌<◌, ◌≤◌, nat_lt, ℕ, Bool, true, false, List, Option, Some, None, Result, Ok, Err, refl, sym, ◌∙◌, subst, ⊎_elim, arith}
use Rattle.std.specs.Prelude.{if◌then◌else◌}
use Rattle.std.proofs.lemmas.Bool.{cases_lt}
use Rattle.std.proofs.lemmas.Bool.Decides.{nat_tests}
use Rattle.jstl_functions.specs.Functions.{measured}
use Rattle.pg_text.specs.declared.place.Place.{Place}
use Rattle.pg_value.specs.Datum.{Datum}
use Rattle.pg_value.specs.declared.fault.RunFault.{RunFault}
use Rattle.pg_value.specs.declared.fault.RunFault.TheVariants as fault
use Rattle.page_meaning.specs.Attributes.{Values}
use Rattle.page_meaning.specs.Growth.{state_of}
use Rattle.page_meaning.specs.Loops.{with_named, set_status, round_begun}
use Rattle.page_meaning.specs.Rounds.{Round, status_record}
use Rattle.page_meaning.specs.State.{State}
use Rattle.page_meaning.specs.Variables.{with_page_variable}
use Rattle.page_meaning.specs.Went.{Did, Well, Raised, Ended, Awaits, then_do, result_of}
use Rattle.page_meaning.specs.Work.{visit_limit}
use Rattle.page_table.proofs.Tame.{kept}

lt_no : (a b : ℕ) → b ≤ a → nat_lt a b ≡ false
lt_no a b h = grind (arith, nat_tests)

lt_yes : (a b : ℕ) → a < b → nat_lt a b ≡ true
lt_yes a b h = grind (arith, nat_tests)

-- neither bodies nor visits change
record Same (s t : State) : Type 0 where
  bodies : kept t ≡ kept s
  visits : t.visits ≡ s.visits

named_same : (name : Option (List ℕ)) (d : Datum) (s : State) → Same s (with_named name d s)
named_same None d s = record { bodies = refl; visits = refl }
named_same (Some name) d s = record { bodies = refl; visits = refl }

status_same : (place : Place) (name : Option (List ℕ)) (d : Datum) (s : State) → Same s (state_of (set_status place name d s))
status_same place None d s = record { bodies = refl; visits = refl }
status_same place (Some name) d s = go (measured d)
  where
    set_so : Result Datum RunFault → Did
    set_so r = then_do (result_of place r s) (λ m s1. Well tt (with_page_variable name m s1))

    go : (r : Result Datum RunFault) → Same s (state_of (set_so r))
    go (Ok m) = record { bodies = refl; visits = refl }
    go (Err f) = record { bodies = refl; visits = refl }

abbrev item_part : Place → (variable status : Option (List ℕ)) → Values → Round → Result Datum RunFault → State → Did
item_part place variable status vs r item s =
    then_do (result_of place item s) (λ item2 s2. set_status place status (status_record vs r item2) (with_named variable item2 s2))

item_same : (place : Place) (variable status : Option (List ℕ)) (vs : Values) (r : Round) (item : Result Datum RunFault) (s : State)
    → Same s (state_of (item_part place variable status vs r item s))
item_same place variable status vs r (Err f) s = record { bodies = refl; visits = refl }
item_same place variable status vs r (Ok item) s =
    let t = with_named variable item s in
    let a = named_same variable item s in
    let b = status_same place status (status_record vs r item) t in
    record { bodies = b.bodies ∙ a.bodies; visits = b.visits ∙ a.visits }

-- a part that counts a visit where it goes well
abbrev pub Counts : State → Did → Type 0
Counts s (Well u t) = (kept t ≡ kept s) × (s.visits < t.visits) × (t.visits ≤ visit_limit)
Counts s (Raised f place t) = (kept t ≡ kept s) × (s.visits ≤ t.visits)
Counts s (Ended leaving t) = (kept t ≡ kept s) × (s.visits ≤ t.visits)
Counts s (Awaits step t) = Unit {0}

counts_of : (s t : State) (w : Did) → kept t ≡ kept s → t.visits ≡ s.visits + 1 → s.visits < visit_limit → Same t (state_of w) → Counts s w
counts_of s t (Well u x) bodies more within same = (omega (arith, bodies, same.bodies), omega (arith, more, same.visits), omega (arith, more, within, same.visits))
counts_of s t (Raised f place x) bodies more within same = (omega (arith, bodies, same.bodies), omega (arith, more, same.visits))
counts_of s t (Ended leaving x) bodies more within same = (omega (arith, bodies, same.bodies), omega (arith, more, same.visits))
counts_of s t (Awaits step x) bodies more within same = tt

pub round_counts : (place : Place) (variable status : Option (List ℕ)) (vs : Values) (r : Round) (s : State) → Counts s (round_begun place variable status vs r s)
round_counts place variable status vs r s = ⊎_elim
    (λ lt. subst P (sym (lt_yes s.visits visit_limit lt))
    (let t : State = record s { visits = s.visits + 1 } in counts_of s t (item_part place variable status vs r r.item t) refl refl lt (item_same place variable status vs r r.item t)))
    (λ ge. subst P (sym (lt_no s.visits visit_limit ge)) (refl, omega arith))
    (cases_lt s.visits visit_limit)
  where
    P : Bool → Type 0
    P b = Counts s (then_do (let w : Did = if b then Well tt (record s { visits = s.visits + 1 }) else Raised fault.TooMuchWork place s in w) (λ u s1. item_part place variable status vs r r.item s1))
