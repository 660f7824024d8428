use Rattle.std.proofs.Common.{◌≡◌, drop}
use Rattle.page_directives.specs.Taglibs.{target_of}
use Rattle.page_directives.proofs.registering.target_of.Given as goal

abbrev pub invariant-loop-directive : goal.invariant-loop-directive
invariant-loop-directive l = target_of l.prefix (drop l.directive-index l.directives) ≡ target_of l.prefix l.directives
