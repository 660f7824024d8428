-- Answers of single functions of the machine, for proofs alone.
use Rattle.std.specs.Prelude.{Bool, true, false, List, [], ◌∷◌, Option, Some, None, Result, Ok, Err, ⊤}
use Rattle.pg_text.specs.declared.failure.Failure.{Failure}
use Rattle.pg_value.specs.Datum.{Datum, null}
use Rattle.pg_value.specs.Value.{datum_of}
use Rattle.pg_value.specs.declared.value.Value.{Value}
use Rattle.pg_value.specs.declared.fault.RunFault.{RunFault}
use Rattle.pg_value.specs.declared.fault.RunFault.TheVariants as fault

-- what is answered of a value that was found in no scope
abbrev pub nowhere_answer : Bool → Datum → Result Datum RunFault
nowhere_answer true null = Err fault.NotFound
nowhere_answer strict d = Ok d

-- what an operation leaves that gives no value
abbrev pub none_of : Result ⊤ (Failure RunFault) → Result (Option Value) (Failure RunFault)
none_of (Ok done) = Ok None
none_of (Err failure) = Err failure

-- what an operation leaves that gives a value
abbrev pub one_of : Result Value (Failure RunFault) → Result (Option Value) (Failure RunFault)
one_of (Ok value) = Ok (Some value)
one_of (Err failure) = Err failure

-- the values that are left, as the table sees them
abbrev pub left_by : Option Value → List Datum
left_by None = []
left_by (Some value) = datum_of value ∷ []

-- whether a value is null
abbrev pub is_null : Datum → Bool
is_null null = true
is_null d = false
