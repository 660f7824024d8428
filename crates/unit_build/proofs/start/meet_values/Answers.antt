use Rattle.std.proofs.Common.{◌<◌, arith, length}
use Rattle.std.specs.Option.{option_map}
use Rattle.unit_words.specs.Kinds.{is_function_prefix}
use Rattle.unit_judges.specs.Made.{kind_made}
use Rattle.unit_build.proofs.ReadLemmas.{values_more}
use Rattle.unit_build.proofs.start.meet_values.Goals as goal

pub loop-attribute-preserved : goal.loop-attribute-preserved
loop-attribute-preserved c =
    let attributes = c.args.attributes.now in
    let i = c.loop-attribute.attribute-index in
    let within : i < length attributes = grind arith in
    values_more (is_function_prefix c.args.course.now.before.directives) (option_map (λ decl. decl.now) c.args.decl) (kind_made c.args.kind.now) attributes i c.attribute-item.result within c.attribute-item.is
    c.loop-attribute.invariant c.in_ok-meet_value.ensures
