use Rattle.std.proofs.Common.{◌≡◌, ◌+◌, ◌-◌, ◌^◌, ◌≤◌, min, max, map, drop}
use Rattle.pg_value.specs.Datum.{entries_of}
use Rattle.pg_value.specs.Depth.{entries_depth}
use Rattle.pg_value.specs.Value.{entry_of}
use Rattle.pg_value.specs.Weight.{entries_weight}
use Rattle.pg_value.proofs.measures.measures_of_entries.Given as goal

abbrev pub invariant-loop-key : goal.invariant-loop-key
invariant-loop-key l = record {
  fits : l.sum ≤ 2 ^ 64 - 1;
  sum : min (l.sum + entries_weight (entries_of (map entry_of (drop l.key-index l.entries)))) (2 ^ 64 - 1)
      ≡ min (16 + entries_weight (entries_of (map entry_of l.entries))) (2 ^ 64 - 1);
  deepest : min (max l.deepest (entries_depth (entries_of (map entry_of (drop l.key-index l.entries))))) (2 ^ 32 - 1)
      ≡ min (entries_depth (entries_of (map entry_of l.entries))) (2 ^ 32 - 1);
}
