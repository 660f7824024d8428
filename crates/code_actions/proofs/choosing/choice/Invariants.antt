use Rattle.std.proofs.Common.{◌≡◌, ◌++◌, length}
use Rattle.code_actions.specs.Choosing.{before, size_before}
use Rattle.code_actions.proofs.choosing.choice.Given as goal

abbrev pub invariant-loop-when : goal.invariant-loop-when
invariant-loop-when l = record {
  joined : l.code ++ before l.ground l.when-iterator.rest.items l.fn.last ≡ before l.ground l.fn.whens.items l.fn.last;
  left : l.left ≡ size_before l.when-iterator.rest.items (length l.fn.last);
}
