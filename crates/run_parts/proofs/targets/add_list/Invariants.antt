use Rattle.std.proofs.Common.{◌≡◌, ◌++◌, take}
use Rattle.run_parts.proofs.targets.add_list.Given as goal

abbrev pub invariant-loop-param : goal.invariant-loop-param
invariant-loop-param l = l.params ≡ l.initial.params ++ take l.param-index l.more
