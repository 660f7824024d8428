-- What a request may do: its visits, and what it asks of the site against its charge.
use Rattle.std.specs.Prelude.{ℕ, ◌+◌, Bool, List, [], ◌∷◌, nat_lt, nat_le, if◌then◌else◌}
use Rattle.pg_text.specs.declared.place.Place.{Place}
use Rattle.pg_value.specs.declared.fault.RunFault.TheVariants as fault
use Rattle.site_words.specs.Law.{Answer}
use Rattle.site_words.specs.declared.words.AppStep.{AppStep}
use Rattle.page_meaning.specs.declared.limits.TheConstants.{CHARGE_LIMIT, VISIT_LIMIT}
use Rattle.page_meaning.specs.State.{State, with_asked}
use Rattle.site_words.specs.PageSteps.{app, fetch, step_charge, page_charge}
use Rattle.page_meaning.specs.Went.{Went, Did, Well, Raised, Awaits, then_do, either}

-- how many visits a request has
unfoldable pub visit_limit : ℕ
visit_limit = VISIT_LIMIT

-- one more visit, or X18
abbrev pub visit : Place → State → Did
visit place s = if nat_lt s.visits visit_limit then Well tt (record s { visits = s.visits + 1 }) else Raised fault.TooMuchWork place s

-- a part behind one visit
abbrev pub visited : {A : Type 0} → Place → (State → Went A) → State → Went A
visited place part s = then_do (visit place s) (λ u s1. part s1)

-- from which charge on nothing more may be asked
unfoldable pub charge_limit : ℕ
charge_limit = CHARGE_LIMIT

-- whether the charge lets nothing more be asked
abbrev pub is_spent : State → Bool
is_spent s = nat_le charge_limit s.charge

-- the first of these answers to a step, which is charged, or the end of what is known
abbrev pub answer_from : AppStep → List Answer → State → Went Answer
answer_from step [] s = Awaits (app step) s
answer_from step (answer ∷ rest) s = Well answer (record (with_asked (app step) s) { answers = rest; charge = s.charge + step_charge step answer })

-- a step on the application's attributes, or X22
abbrev pub ask : Place → AppStep → State → Went Answer
ask place step s = either (is_spent s) (Raised fault.AppTooMuch place) (answer_from step s.answers) s

-- with the fetch of a page asked and the page's run charged
abbrev pub fetched : (path : List ℕ) → State → State
fetched path s = record (with_asked (fetch path) s) { charge = s.charge + page_charge path }
