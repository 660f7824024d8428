use Rattle.std.proofs.Common.{◌≡◌, take}
use Rattle.std.specs.Prelude.{map}
use Rattle.page_directives.specs.Faults.{in_order}
use Rattle.jstl_tags.specs.Check.{names_faults}
use Rattle.jstl_tags.specs.Rows.{row_made}
use Rattle.jstl_tags.specs.Standing.{part_names_in, standing_made}
use Rattle.jstl_tags.proofs.given.part_faults.Given as goal

abbrev pub invariant-loop-thing : goal.invariant-loop-thing
invariant-loop-thing l = l.faults ≡ in_order (names_faults (row_made l.row) (part_names_in (map standing_made (take l.thing-index l.parts))))
