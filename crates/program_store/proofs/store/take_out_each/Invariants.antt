use Rattle.std.proofs.Common.{◌≡◌, take}
use Rattle.pg_text.specs.Order.{AreRising}
use Rattle.program_store.specs.Store.{others, shelf_path}
use Rattle.program_store.proofs.store.take_out_each.Given as goal

-- the shelves of the paths before this one are taken out
abbrev pub invariant-loop-path : goal.invariant-loop-path
invariant-loop-path g l = record {
  left : l.shelves.items ≡ others shelf_path (take l.path-index l.paths) l.fn.shelves.items;
  order : AreRising shelf_path l.shelves.items;
}
