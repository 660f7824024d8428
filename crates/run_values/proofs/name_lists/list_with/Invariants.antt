use Rattle.std.proofs.Common.{◌≡◌, ◌++◌, map, take}
use Rattle.run_values.proofs.name_lists.list_with.Given as goal

abbrev pub invariant-loop-value : goal.invariant-loop-value
invariant-loop-value l = l.items.items ≡ l.initial.items.items ++ map (λ e. e.1) (take l.value-index l.more)
