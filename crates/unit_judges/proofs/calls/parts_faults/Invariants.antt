use Rattle.std.proofs.Common.{◌≡◌, map, take}
use Rattle.page_directives.specs.Faults.{in_order}
use Rattle.jstl_tags.specs.Content.{attribute_names}
use Rattle.jstl_tags.specs.Standing.{part_names_in, standing_made}
use Rattle.unit_words.specs.Calls.{names_faults}
use Rattle.unit_judges.proofs.calls.parts_faults.Given as goal

abbrev pub invariant-loop-part : goal.invariant-loop-part
invariant-loop-part l = l.faults ≡ in_order (names_faults l.decl (attribute_names l.attributes) (part_names_in (map standing_made (take l.part-index l.parts))))
