use Rattle.std.proofs.Common.{◌≡◌, ◌++◌, length, map}
use Rattle.run_values.proofs.addresses.params_in.Given as goal
use Rattle.page_table.specs.Operations.{params_in}
use Rattle.pg_value.specs.Value.{datum_of}

abbrev pub invariant-loop-rest : goal.invariant-loop-rest
invariant-loop-rest l = l.params ++ params_in (map datum_of l.rest) ≡ params_in (map datum_of l.values)

abbrev pub decreases-loop-rest : goal.decreases-loop-rest
decreases-loop-rest l = length l.rest
