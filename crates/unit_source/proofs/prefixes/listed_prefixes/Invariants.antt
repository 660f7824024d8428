use Rattle.std.proofs.Common.{◌≡◌, ◌++◌, drop}
use Rattle.page_directives.specs.Taglibs.{prefixes_of}
use Rattle.unit_source.proofs.prefixes.listed_prefixes.Given as goal

abbrev pub invariant-loop-directive : goal.invariant-loop-directive
invariant-loop-directive l = l.prefixes ++ prefixes_of (drop l.directive-index l.directives) ≡ prefixes_of l.directives
