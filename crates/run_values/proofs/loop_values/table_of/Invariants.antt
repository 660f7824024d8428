use Rattle.std.proofs.Common.{◌≡◌, drop, map, reverse}
use Rattle.run_values.proofs.loop_values.table_of.Given as goal
use Rattle.page_meaning.specs.Attributes.{table_of, table_onto}
use Rattle.pg_value.specs.Value.{datum_of, entry_of}

abbrev pub invariant-loop-index : goal.invariant-loop-index
invariant-loop-index l =
    table_onto (reverse (map entry_of l.table.items)) (drop l.index l.names) (map datum_of (drop l.index l.values)) ≡ table_of l.names (map datum_of l.values)
