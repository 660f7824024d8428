use Rattle.std.proofs.Common.{◌≡◌, take}
use Rattle.page_directives.specs.Faults.{in_order}
use Rattle.jstl_tags.specs.Check.{names_faults}
use Rattle.jstl_tags.specs.Content.{attribute_names}
use Rattle.jstl_tags.specs.Rows.{row_made}
use Rattle.jstl_tags.proofs.given.written_faults.Given as goal

abbrev pub invariant-loop-attribute : goal.invariant-loop-attribute
invariant-loop-attribute l = l.faults ≡ in_order (names_faults (row_made l.row) (attribute_names (take l.attribute-index l.attributes)))
