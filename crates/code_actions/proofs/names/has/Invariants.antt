use Rattle.std.proofs.Common.{◌≡◌, drop}
use Rattle.code_lowering.specs.Lowering.{has}
use Rattle.code_actions.proofs.names.has.Given as goal

abbrev pub invariant-loop-other : goal.invariant-loop-other
invariant-loop-other l = has l.name (drop l.other-index l.names) ≡ has l.name l.names
