use Rattle.std.proofs.Common.{◌≡◌, take}
use Rattle.unit_source.proofs.reading_order.borrowed.Given as goal

abbrev pub invariant-loop-directive : goal.invariant-loop-directive
invariant-loop-directive l = l.all.items ≡ take l.directive-index l.directives
