use Rattle.std.proofs.Common.{◌≡◌, drop}
use Rattle.page_directives.specs.Directive.{row_of}
use Rattle.unit_judges.specs.Made.{standards_made}
use Rattle.unit_judges.proofs.standard.row_of.Given as goal

abbrev pub invariant-loop-row : goal.invariant-loop-row
invariant-loop-row l = row_of l.name (standards_made (drop l.row-index l.table)) ≡ row_of l.name (standards_made l.table)
