use Rattle.std.proofs.Common.{◌∙◌, ◌<◌, [], ◌∷◌, length, take, ap, arith}
use Rattle.std.specs.Prelude.{map}
use Rattle.page_directives.specs.Faults.{in_order}
use Rattle.jstl_tags.specs.Check.{names_faults}
use Rattle.jstl_tags.specs.Rows.{row_made}
use Rattle.jstl_tags.specs.Standing.{part_names_in, standing_made}
use Rattle.jstl_tags.proofs.NamesFaults.{parts_more}
use Rattle.jstl_tags.proofs.given.part_faults.Goals as goal

pub loop-thing-preserved : goal.loop-thing-preserved
loop-thing-preserved c =
    let parts = c.args.parts.now in
    let thing = c.thing-item.result in
    let i = c.loop-thing.thing-index in
    let row = row_made c.args.row.now in
    let within : i < length parts = grind arith in
    c.and-faults.ensures.of (names_faults row (part_names_in (map standing_made (take i parts)))) (names_faults row (part_names_in (standing_made thing ∷ []))) c.loop-thing.invariant c.part_fault.ensures
    ∙ ap in_order (parts_more row parts i thing within c.thing-item.is)
