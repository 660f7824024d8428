use Rattle.std.proofs.Common.{◌∙◌, ◌<◌, ◌∷◌, [], length, take, ap, arith}
use Rattle.page_directives.specs.Faults.{in_order}
use Rattle.unit_words.specs.Kinds.{is_function_prefix}
use Rattle.unit_words.specs.Values.{part_faults}
use Rattle.unit_judges.proofs.MoreLemmas.{one_more}
use Rattle.unit_judges.proofs.ValueLemmas.{parts_joined}
use Rattle.unit_judges.proofs.values.part_faults.Goals as goal

pub loop-part-preserved : goal.loop-part-preserved
loop-part-preserved c =
    let parts = c.args.parts.now in
    let part = c.part-item.result in
    let i = c.loop-part.part-index in
    let library = is_function_prefix c.args.before.now.directives in
    let within : i < length parts = grind arith in
    c.and-faults.ensures.of (part_faults library (take i parts)) (part_faults library (part ∷ [])) c.loop-part.invariant c.in_ok-part_fault.ensures
    ∙ ap in_order (one_more (part_faults library) (parts_joined library) parts i part within c.part-item.is)
