-- What the steps of the reader of JSON answer.
use Rattle.std.specs.Prelude.{◌≡◌, Option, Some, None, Result, Ok, Err, ⊤}
use Rattle.serde_json.specs.Data.{Data}
use Rattle.pg_text.specs.declared.failure.Failure.{Failure}
use Rattle.pg_text.specs.declared.failure.Failure.TheVariants.{NoMemory, Fault}
use Rattle.pg_value.specs.Datum.{Datum}
use Rattle.pg_value.specs.Value.{datum_of}
use Rattle.pg_value.specs.declared.value.Value.{Value}
use Rattle.pg_value.specs.declared.json.JsonFault.{JsonFault}
use Rattle.pg_value.specs.declared.json.JsonFault.TheVariants as fault

-- a reader answers this fault, or memory ran out
abbrev pub Refuses : Option Data → Failure JsonFault → Type 0
Refuses found NoMemory = ⊤
Refuses found (Fault fault.NotJson) = found ≡ None
Refuses found (Fault other) = ⊥

-- a number isn't written as a whole number of 64 bits, or memory ran out
abbrev pub FailsToConvert : {A : Type 0} → Option A → Failure JsonFault → Type 0
FailsToConvert found NoMemory = ⊤
FailsToConvert found (Fault fault.Decimal) = found ≡ None
FailsToConvert found (Fault other) = ⊥

abbrev pub Converts : Option Datum → Result Value (Failure JsonFault) → Type 0
Converts found (Ok value) = found ≡ Some (datum_of value)
Converts found (Err failure) = FailsToConvert found failure

abbrev pub ConvertsTo : {A : Type 0} → Option A → Result A (Failure JsonFault) → Type 0
ConvertsTo found (Ok made) = found ≡ Some made
ConvertsTo found (Err failure) = FailsToConvert found failure
