use Rattle.std.proofs.Common.{◌≡◌, ◌++◌}
use Rattle.code_forms.specs.Codes.{form_code}
use Rattle.code_lowering.specs.Expressions.{fitted}
use Rattle.code_expressions.proofs.calls.nulls.Given as goal

abbrev pub invariant-loop-left : goal.invariant-loop-left
invariant-loop-left l = l.code ++ form_code l.above (fitted l.place 0 l.left) ≡ form_code l.ground (fitted l.place 0 l.count)

abbrev pub decreases-loop-left : goal.decreases-loop-left
decreases-loop-left l = l.left
