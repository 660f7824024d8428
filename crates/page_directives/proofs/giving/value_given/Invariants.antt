use Rattle.std.proofs.Common.{◌≡◌, ◌++◌, drop}
use Rattle.page_pieces.specs.Settings.{value_of}
use Rattle.page_directives.specs.Settings.{given}
use Rattle.page_directives.proofs.giving.value_given.Given as goal

abbrev pub invariant-loop-directive : goal.invariant-loop-directive
invariant-loop-directive l = value_of l.name (given l.giver (drop l.directive-index l.before) ++ l.own) ≡ value_of l.name (given l.giver l.before ++ l.own)
