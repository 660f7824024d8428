use Rattle.std.proofs.Common.{◌∙◌}
use Rattle.unit_source.proofs.PartLemmas.{part_begun}
use Rattle.unit_source.proofs.part.push_directive.Goals as goal

pub returns-clause-all : goal.returns-clause-all
returns-clause-all c =
    part_begun c.args.parts.now _ _ c.args.plain.now _ _ c.args.directive c.in_ok-push-2.ensures.ok c.in_ok-new.ensures c.replace-before.ensures.value (c.replace-before.ensures.after ∙ c.empty.ensures)
