use Rattle.std.proofs.Common.{◌≡◌}
use Rattle.std.specs.Prelude.{drop}
use Rattle.code_check.specs.ReadChecks.{all_fit}
use Rattle.code_check.proofs.whole.are_fit.Given as goal

abbrev pub invariant-loop-pc : goal.invariant-loop-pc
invariant-loop-pc l = all_fit l.code l.pc (drop l.pc l.code) ≡ all_fit l.code 0 l.code
