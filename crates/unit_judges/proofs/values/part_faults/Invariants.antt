use Rattle.std.proofs.Common.{◌≡◌, take}
use Rattle.page_directives.specs.Faults.{in_order}
use Rattle.unit_words.specs.Kinds.{is_function_prefix}
use Rattle.unit_words.specs.Values.{part_faults}
use Rattle.unit_judges.proofs.values.part_faults.Given as goal

abbrev pub invariant-loop-part : goal.invariant-loop-part
invariant-loop-part l = l.faults ≡ in_order (part_faults (is_function_prefix l.before.directives) (take l.part-index l.parts))
