use Rattle.std.proofs.Common.{◌≡◌, drop}
use Rattle.page_directives.specs.Rows.{rows_of}
use Rattle.page_directives.specs.Settings.{decided, given}
use Rattle.page_directives.proofs.giving.decided.Given as goal

abbrev pub invariant-loop-directive : goal.invariant-loop-directive
invariant-loop-directive l = decided (rows_of l.table) l.name (given l.giver (drop l.directive-index l.directives)) ≡ decided (rows_of l.table) l.name (given l.giver l.directives)
