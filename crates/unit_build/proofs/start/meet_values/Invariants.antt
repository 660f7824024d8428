use Rattle.std.proofs.Common.{take}
use Rattle.std.specs.Option.{option_map}
use Rattle.unit_words.specs.Elements.{values_met}
use Rattle.unit_words.specs.Kinds.{is_function_prefix}
use Rattle.unit_judges.specs.Made.{kind_made}
use Rattle.unit_build.specs.ReadFound.{IsMet}
use Rattle.unit_build.proofs.start.meet_values.Given as goal

abbrev pub invariant-loop-attribute : goal.invariant-loop-attribute
invariant-loop-attribute l =
    IsMet l.fn.found l.found (values_met (is_function_prefix l.course.before.directives) (option_map (λ decl. decl.now) l.decl) (kind_made l.kind) (take l.attribute-index l.attributes))
