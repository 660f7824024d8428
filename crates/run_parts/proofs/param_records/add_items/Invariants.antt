use Rattle.std.proofs.Common.{◌≡◌, ◌++◌, take}
use Rattle.run_parts.proofs.param_records.add_items.Given as goal

abbrev pub invariant-loop-item : goal.invariant-loop-item
invariant-loop-item l = l.items.items ≡ l.initial.items.items ++ take l.item-index l.item-items
