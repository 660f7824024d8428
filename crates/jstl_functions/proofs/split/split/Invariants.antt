use Rattle.std.proofs.Common.{◌≡◌, map}
use Rattle.pg_value.specs.Datum.{text}
use Rattle.pg_value.specs.Value.{datum_of}
use Rattle.jstl_functions.proofs.split.split.Given as goal

abbrev pub invariant-loop-text : goal.invariant-loop-text
invariant-loop-text l = map datum_of l.items.items ≡ map text l.yielded
