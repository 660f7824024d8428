use Rattle.std.proofs.Common.{◌∙◌, ◌<◌, ◌∷◌, [], length, map, take, ap, arith}
use Rattle.page_directives.specs.Faults.{in_order}
use Rattle.jstl_tags.specs.Content.{attribute_names}
use Rattle.jstl_tags.specs.Standing.{part_names_in, standing_made}
use Rattle.unit_words.specs.Calls.{names_faults}
use Rattle.unit_judges.proofs.CallLemmas.{parts_joined}
use Rattle.unit_judges.proofs.MoreLemmas.{one_more}
use Rattle.unit_judges.proofs.calls.parts_faults.Goals as goal

pub loop-part-preserved : goal.loop-part-preserved
loop-part-preserved c =
    let parts = c.args.parts.now in
    let part = c.part-item.result in
    let i = c.loop-part.part-index in
    let decl = c.args.decl.now in
    let all = attribute_names c.args.attributes.now in
    let within : i < length parts = grind arith in
    c.and-faults.ensures.of (names_faults decl all (part_names_in (map standing_made (take i parts)))) (names_faults decl all (part_names_in (standing_made part ∷ []))) c.loop-part.invariant c.part_faults.ensures
    ∙ ap in_order (one_more (λ xs. names_faults decl all (part_names_in (map standing_made xs))) (parts_joined decl all) parts i part within c.part-item.is)
