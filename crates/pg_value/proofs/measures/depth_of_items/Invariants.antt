use Rattle.std.proofs.Common.{◌≡◌, ◌-◌, ◌^◌, min, max, map, drop}
use Rattle.pg_value.specs.Datum.{items_of}
use Rattle.pg_value.specs.Depth.{items_depth}
use Rattle.pg_value.specs.Value.{datum_of}
use Rattle.pg_value.proofs.measures.depth_of_items.Given as goal

abbrev pub invariant-loop-item : goal.invariant-loop-item
invariant-loop-item l =
    min (max l.deepest (items_depth (items_of (map datum_of (drop l.item-index l.items))))) (2 ^ 32 - 1)
    ≡ min (items_depth (items_of (map datum_of l.items))) (2 ^ 32 - 1)
