use Rattle.std.proofs.Common.{◌≡◌, drop}
use Rattle.page_directives.specs.Directive.{row_of}
use Rattle.page_directives.specs.Rows.{rows_of}
use Rattle.page_directives.proofs.checks.row_of.Given as goal

abbrev pub invariant-loop-row : goal.invariant-loop-row
invariant-loop-row l = row_of l.name (rows_of (drop l.row-index l.table)) ≡ row_of l.name (rows_of l.table)
