use Rattle.std.proofs.Common.{◌≡◌, ◌+◌, ◌-◌, ◌^◌, ◌≤◌, min, max, drop}
use Rattle.pg_value.specs.Datum.{entries_of}
use Rattle.pg_value.specs.Depth.{entries_depth}
use Rattle.pg_value.specs.ReadEntries.{joined}
use Rattle.pg_value.specs.Weight.{entries_weight}
use Rattle.pg_value.proofs.blocks.measures.Given as goal

abbrev pub invariant-loop-block : goal.invariant-loop-block
invariant-loop-block l = record {
  least : 16 ≤ l.sum;
  most : l.sum ≤ 2 ^ 64 - 1;
  some : 1 ≤ l.deepest;
  below : l.deepest ≤ 2 ^ 32 - 1;
  sum : min (l.sum + entries_weight (entries_of (joined (drop l.block-index l.blocks)))) (2 ^ 64 - 1)
      ≡ min (16 + entries_weight (entries_of (joined l.blocks))) (2 ^ 64 - 1);
  deepest : min (max l.deepest (1 + entries_depth (entries_of (joined (drop l.block-index l.blocks))))) (2 ^ 32 - 1)
      ≡ min (1 + entries_depth (entries_of (joined l.blocks))) (2 ^ 32 - 1);
}
