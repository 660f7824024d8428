use Rattle.std.proofs.Common.{◌≡◌, ◌<◌, ◌≤◌, ◌-◌, [], length, get_or, true, false}
use Rattle.pg_value.specs.ReadEntries.{is_behind}
use Rattle.pg_value.proofs.blocks.place.Given as goal

-- the block before these doesn't begin above the key, and the one behind them does
abbrev pub invariant-loop-low : goal.invariant-loop-low
invariant-loop-low l = record {
  least : 1 ≤ l.low;
  most : l.low ≤ l.high;
  within : l.high ≤ length l.blocks;
  from : 1 < l.low → is_behind l.key (get_or l.blocks (l.low - 1) []) ≡ false;
  to : l.high < length l.blocks → is_behind l.key (get_or l.blocks l.high []) ≡ true;
}

abbrev pub decreases-loop-low : goal.decreases-loop-low
decreases-loop-low l = l.high - l.low
