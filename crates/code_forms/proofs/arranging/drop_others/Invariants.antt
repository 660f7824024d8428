use Rattle.std.proofs.Common.{◌≡◌, ◌++◌}
use Rattle.code_forms.specs.Codes.{dropped_code}
use Rattle.code_forms.proofs.arranging.drop_others.Given as goal

abbrev pub invariant-loop-left : goal.invariant-loop-left
invariant-loop-left l = l.code ++ dropped_code l.ground l.place l.done l.left ≡ l.fn.code ++ dropped_code l.ground l.place l.done l.many

abbrev pub decreases-loop-left : goal.decreases-loop-left
decreases-loop-left l = l.left
