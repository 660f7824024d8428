use Rattle.std.proofs.Common.{◌≡◌, ◌++◌, drop}
use Rattle.unit_build.specs.ReadCore.{core_of}
use Rattle.unit_build.proofs.decided.core_prefixes.Given as goal

abbrev pub invariant-loop-directive : goal.invariant-loop-directive
invariant-loop-directive l = l.core ++ core_of l.directives (drop l.directive-index l.directives) ≡ core_of l.directives l.directives
