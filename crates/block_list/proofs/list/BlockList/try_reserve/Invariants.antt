use Rattle.std.proofs.Common.{◌≡◌, ◌*◌, ◌≤◌}
use Rattle.block_list.specs.Blocks.{block}
use Rattle.block_list.proofs.list.BlockList.try_reserve.Given as goal

-- the items stay, and so many blocks came
abbrev pub invariant-loop-more : goal.invariant-loop-more
invariant-loop-more g l = record {
  items : l.self.items ≡ l.fn.self.items;
  more : l.fn.self.room ≤ l.self.room;
  room : block * l._more ≤ l.self.room;
}
