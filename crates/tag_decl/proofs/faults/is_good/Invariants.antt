use Rattle.std.proofs.Common.{◌≡◌, []}
use Rattle.tag_decl.specs.Faults.{are_good}
use Rattle.tag_decl.proofs.faults.is_good.Given as goal

abbrev pub invariant-loop-directive : goal.invariant-loop-directive
invariant-loop-directive l = are_good l.decls l.before l.directive-iterator.rest.items ≡ are_good l.decls [] l.fn.directives.items
