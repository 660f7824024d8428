use Rattle.std.proofs.Common.{◌≡◌, take}
use Rattle.run_values.proofs.values.list_of.Given as goal

abbrev pub invariant-loop-item : goal.invariant-loop-item
invariant-loop-item l = l.copy.items ≡ take l.item-index l.items
