use Rattle.std.proofs.Common.{◌≡◌, ◌+◌, ◌-◌, ◌^◌, ◌≤◌, min, map, drop}
use Rattle.pg_value.specs.Attrs.{without_entry}
use Rattle.pg_value.specs.Datum.{entries_of}
use Rattle.pg_value.specs.Value.{entry_of}
use Rattle.pg_value.specs.Weight.{entries_weight}
use Rattle.scopes.proofs.attributes.counted_without.Given as goal

abbrev pub invariant-loop-name : goal.invariant-loop-name
invariant-loop-name l = record {
  fits : l.sum ≤ 2 ^ 64 - 1;
  sum : min (l.sum + entries_weight (entries_of (without_entry (map entry_of (drop l.name-index l.entries)) l.key))) (2 ^ 64 - 1)
      ≡ min (16 + entries_weight (entries_of (without_entry (map entry_of l.entries) l.key))) (2 ^ 64 - 1);
}
