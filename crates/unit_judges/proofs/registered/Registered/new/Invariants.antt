use Rattle.std.proofs.Common.{◌≡◌, ◌++◌}
use Rattle.unit_judges.proofs.registered.Registered.new.Given as goal

abbrev pub invariant-loop-directive : goal.invariant-loop-directive
invariant-loop-directive l = l.all.directives ++ l.directive-iterator.rest.items ≡ l.fn.directives.items
