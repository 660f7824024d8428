-- Variables in a tree, as the program keeps many of them. No public contract speaks of it.
use Rattle.std.specs.Prelude.{ℕ, List, String, map, string_bytes}
use Rattle.pg_value.specs.Datum.{Datum}
use Rattle.pg_value.specs.Value.{datum_of}
use Rattle.pg_value.specs.declared.value.Value.{Value}

-- a name with what stands under it
abbrev pub told : {A : Type 0} → String A × Value → List ℕ × Datum
told e = (string_bytes e.0, datum_of e.1)

-- the variables, in the order of their names
abbrev pub in_tree : {A : Type 0} → List (String A × Value) → List (List ℕ × Datum)
in_tree es = map told es
