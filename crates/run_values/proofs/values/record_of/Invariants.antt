use Rattle.std.proofs.Common.{◌≡◌, [], length, map}
use Rattle.run_values.proofs.values.record_of.Given as goal
use Rattle.page_meaning.specs.Expressions.{record_onto}
use Rattle.page_table.specs.Operations.{pairs_in}
use Rattle.pg_value.specs.Attrs.{of_entries}
use Rattle.pg_value.specs.Value.{datum_of, entry_of}

abbrev pub invariant-loop-rest : goal.invariant-loop-rest
invariant-loop-rest l = record_onto (of_entries (map entry_of l.entries.items)) (pairs_in (map datum_of l.rest)) ≡ record_onto [] (pairs_in (map datum_of l.pairs))

abbrev pub decreases-loop-rest : goal.decreases-loop-rest
decreases-loop-rest l = length l.rest
