use Rattle.std.proofs.Common.{◌≡◌, drop, map}
use Rattle.run_values.proofs.loop_values.value_at.Given as goal
use Rattle.page_meaning.specs.Attributes.{value_at}
use Rattle.pg_value.specs.Value.{entry_of}

abbrev pub invariant-loop-entry : goal.invariant-loop-entry
invariant-loop-entry l = value_at l.name (map entry_of (drop l.entry-index l.table)) ≡ value_at l.name (map entry_of l.table)
