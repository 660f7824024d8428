use Rattle.std.proofs.Common.{◌≡◌, drop}
use Rattle.std.specs.Prelude.{map}
use Rattle.page_directives.specs.Directive.{row_of}
use Rattle.tag_decl.proofs.named.row_of.Given as goal

abbrev pub invariant-loop-row : goal.invariant-loop-row
invariant-loop-row l = row_of l.name (map (λ row. (row.0.now, row.1)) (drop l.row-index l.table)) ≡ row_of l.name (map (λ row. (row.0.now, row.1)) l.table)
