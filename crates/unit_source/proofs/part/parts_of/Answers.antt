use Rattle.std.proofs.Common.{◌∙◌, ◌++◌, ap, sym, arith}
use Rattle.std.proofs.lemmas.List.{append-nil, drop_all}
use Rattle.unit_source.specs.ReadParts.{in_parts}
use Rattle.unit_source.proofs.PartLemmas.{part_last}
use Rattle.unit_source.proofs.part.parts_of.Goals as goal

pub returns : goal.returns
returns c =
    let here = in_parts c.loop-directive.parts ++ c.loop-directive.plain in
    part_last c.loop-directive.parts _ _ c.loop-directive.plain c.in_ok-push.ensures.ok c.in_ok-new.ensures
    ∙ sym (append-nil here)
    ∙ ap (λ ds. here ++ ds) (sym (drop_all c.loop-directive.directive-index c.args.directives.now (omega arith)))
    ∙ c.loop-directive.invariant.all
