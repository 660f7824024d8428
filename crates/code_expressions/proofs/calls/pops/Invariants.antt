use Rattle.std.proofs.Common.{◌≡◌, ◌++◌}
use Rattle.code_forms.specs.Codes.{form_code}
use Rattle.code_lowering.specs.Expressions.{fitted}
use Rattle.code_expressions.proofs.calls.pops.Given as goal

abbrev pub invariant-loop-left : goal.invariant-loop-left
invariant-loop-left l = l.code ++ form_code l.ground (fitted l.place l.left 0) ≡ form_code l.ground (fitted l.place l.count 0)

abbrev pub decreases-loop-left : goal.decreases-loop-left
decreases-loop-left l = l.left
