-- Rounds, stored as their parts, by which a proof tells them apart.
use Rattle.std.specs.List.{slice_get}
use Rattle.std.specs.Option.{unwrap_or}
use Rattle.std.specs.Prelude.{ℕ, Bool, List, Result, refl, ◌≡◌, [], ◌∷◌}
use Rattle.std.specs.Coded.{Coded, code_by, coded_list, coded_result, coded_ℕ, coded_bool, coded×}
use Rattle.pg_value.specs.Datum.{Datum}
use Rattle.pg_value.specs.DatumCode.{datum_code}
use Rattle.pg_value.specs.RunFault.{number_of}
use Rattle.pg_value.specs.declared.fault.RunFault.{RunFault}
use Rattle.pg_value.specs.declared.fault.RunFault.TheVariants as fault
use Rattle.page_meaning.specs.Rounds.{Round}

-- the faults by their numbers
abbrev faults : List RunFault
faults = fault.NotANumber ∷ fault.NotANumber ∷ fault.NotABoolean ∷ fault.ZeroDivisor ∷ fault.Decimal ∷ fault.NoProperty ∷ fault.NotFound ∷ fault.NotIterable ∷ fault.BadLoop ∷ fault.Committed ∷ fault.BufferOverflow ∷ fault.NoSuchPage ∷ fault.BadPage ∷ fault.NoSession ∷ fault.NotARecord ∷ fault.BadUrl ∷ fault.NotComparable ∷ fault.TooDeep ∷ fault.TooMuchWork ∷ fault.OutputTooLong ∷ fault.ValueTooLarge ∷ fault.SessionTooLarge ∷ fault.AppTooMuch ∷ []

abbrev fault_at : ℕ → RunFault
fault_at n = unwrap_or (slice_get faults n) fault.NotANumber

pub fault_same : (f : RunFault) → fault_at (number_of f) ≡ f
fault_same fault.NotANumber = refl
fault_same fault.NotABoolean = refl
fault_same fault.ZeroDivisor = refl
fault_same fault.Decimal = refl
fault_same fault.NoProperty = refl
fault_same fault.NotFound = refl
fault_same fault.NotIterable = refl
fault_same fault.BadLoop = refl
fault_same fault.Committed = refl
fault_same fault.BufferOverflow = refl
fault_same fault.NoSuchPage = refl
fault_same fault.BadPage = refl
fault_same fault.NoSession = refl
fault_same fault.NotARecord = refl
fault_same fault.BadUrl = refl
fault_same fault.NotComparable = refl
fault_same fault.TooDeep = refl
fault_same fault.TooMuchWork = refl
fault_same fault.OutputTooLong = refl
fault_same fault.ValueTooLarge = refl
fault_same fault.SessionTooLarge = refl
fault_same fault.AppTooMuch = refl

abbrev fault_code : Coded RunFault
fault_code = code_by ℕ coded_ℕ number_of fault_at fault_same

abbrev round_code : Coded Round
round_code =
    code_by (Result Datum RunFault × (ℕ × (ℕ × Bool))) (coded× (coded_result datum_code fault_code) (coded× coded_ℕ (coded× coded_ℕ coded_bool)))
    (λ r. (r.item, (r.index, (r.count, r.is_last)))) (λ p. record { item = p.0; index = p.1.0; count = p.1.1.0; is_last = p.1.1.1 }) (λ _. refl)

abbrev pub rounds_code : Coded (List Round)
rounds_code = coded_list round_code
