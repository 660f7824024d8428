use Rattle.std.proofs.Common.{◌≡◌, take}
use Rattle.page_directives.specs.Faults.{in_order}
use Rattle.jstl_tags.specs.Content.{attribute_names}
use Rattle.unit_words.specs.Calls.{names_faults}
use Rattle.unit_judges.proofs.calls.written_faults.Given as goal

abbrev pub invariant-loop-attribute : goal.invariant-loop-attribute
invariant-loop-attribute l = l.faults ≡ in_order (names_faults l.decl (attribute_names l.written) (attribute_names (take l.attribute-index l.attributes)))
