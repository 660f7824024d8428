use Rattle.std.proofs.Common.{◌≡◌, drop}
use Rattle.code_actions.specs.Choosing.{size_before}
use Rattle.code_actions.proofs.choosing.size.Given as goal

abbrev pub invariant-loop-when : goal.invariant-loop-when
invariant-loop-when l = size_before (drop l.when-index l.whens) l.size ≡ size_before l.whens l.last
