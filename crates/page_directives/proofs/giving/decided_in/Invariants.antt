use Rattle.std.proofs.Common.{◌≡◌, drop}
use Rattle.page_directives.specs.Rows.{rows_of}
use Rattle.page_directives.specs.Settings.{decided}
use Rattle.page_directives.proofs.giving.decided_in.Given as goal

abbrev pub invariant-loop-attribute : goal.invariant-loop-attribute
invariant-loop-attribute l = decided (rows_of l.table) l.name (drop l.attribute-index l.attributes) ≡ decided (rows_of l.table) l.name l.attributes
