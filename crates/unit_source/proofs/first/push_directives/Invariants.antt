use Rattle.std.proofs.Common.{◌≡◌, ◌++◌, drop}
use Rattle.unit_source.proofs.first.push_directives.Given as goal

abbrev pub invariant-loop-directive : goal.invariant-loop-directive
invariant-loop-directive l = l.directives ++ drop l.directive-index l.directive-items ≡ l.fn.directives ++ l.directive-items
