use Rattle.std.proofs.Common.{◌≡◌, ◌+◌, drop}
use Rattle.el_coercion.specs.Number.{digits_before}
use Rattle.el_coercion.proofs.number.digits_before.Given as goal

abbrev pub invariant-loop-i : goal.invariant-loop-i
invariant-loop-i l = digits_before l.text ≡ l.i + digits_before (drop l.i l.text)
