use Rattle.std.proofs.Common.{◌≡◌, drop}
use Rattle.page_directives.specs.Directive.{row_of}
use Rattle.jstl_tags.specs.Rows.{rows_made}
use Rattle.jstl_tags.proofs.core_table.row_of.Given as goal

abbrev pub invariant-loop-row : goal.invariant-loop-row
invariant-loop-row l = row_of l.name (rows_made (drop l.row-index l.table)) ≡ row_of l.name (rows_made l.table)
