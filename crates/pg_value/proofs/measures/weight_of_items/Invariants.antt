use Rattle.std.proofs.Common.{◌≡◌, ◌+◌, ◌-◌, ◌^◌, ◌≤◌, min, map, drop}
use Rattle.pg_value.specs.Datum.{items_of}
use Rattle.pg_value.specs.Value.{datum_of}
use Rattle.pg_value.specs.Weight.{items_weight}
use Rattle.pg_value.proofs.measures.weight_of_items.Given as goal

abbrev pub invariant-loop-item : goal.invariant-loop-item
invariant-loop-item l = record {
  fits : l.sum ≤ 2 ^ 64 - 1;
  sum : min (l.sum + items_weight (items_of (map datum_of (drop l.item-index l.items)))) (2 ^ 64 - 1)
      ≡ min (16 + items_weight (items_of (map datum_of l.items))) (2 ^ 64 - 1);
}
