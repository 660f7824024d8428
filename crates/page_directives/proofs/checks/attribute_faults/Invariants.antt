use Rattle.std.proofs.Common.{◌≡◌, take}
use Rattle.page_directives.specs.Checks.{attribute_faults}
use Rattle.page_directives.specs.Faults.{in_order}
use Rattle.page_directives.specs.Rows.{rows_of}
use Rattle.page_directives.proofs.checks.attribute_faults.Given as goal

abbrev pub invariant-loop-attribute : goal.invariant-loop-attribute
invariant-loop-attribute l = l.faults ≡ in_order (attribute_faults (rows_of l.table) (take l.attribute-index l.attributes))
