-- Values as they are read, one behind the other.
use Rattle.std.specs.Prelude.{ℕ, List, ◌++◌, map}
use Rattle.pg_value.specs.Datum.{Datum}
use Rattle.pg_value.specs.Value.{datum_of, value_of}
use Rattle.pg_value.specs.declared.value.Value.{Value}
use Rattle.site_journal.specs.Codes.{IsText, of_bytes}
use Rattle.site_journal.specs.Journal.{of_value}
use Rattle.site_journal.specs.Reading.{IsDatum}

abbrev pub IsValue : Value → Type 0
IsValue value = IsDatum (datum_of value)

-- a key, with what stands under it
abbrev pub IsPair : List ℕ × Value → Type 0
IsPair pair = IsText pair.0 × IsValue pair.1

abbrev pub of_pair : List ℕ × Value → List ℕ
of_pair pair = of_bytes pair.0 ++ of_value pair.1

-- attributes as keys, each with the value that stands under it
abbrev pub are_attrs : List (List ℕ × Datum) → List (List ℕ × Value)
are_attrs attrs = map (λ e. (e.0, value_of e.1)) attrs
