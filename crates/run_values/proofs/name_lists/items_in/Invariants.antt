use Rattle.std.proofs.Common.{◌≡◌, take}
use Rattle.run_values.proofs.name_lists.items_in.Given as goal

abbrev pub invariant-loop-item : goal.invariant-loop-item
invariant-loop-item l = l.items.items ≡ take l.item-index l.item-items
