use Rattle.std.proofs.Common.{ap, arith, ◌∙◌}
use Rattle.page_meaning.specs.Request.{first_values}
use Rattle.run_parts.proofs.OwnParams.{all_put, first_of, own_first_values, with_own}
use Rattle.run_parts.proofs.param_records.with_first_values.Goals as goal

pub returns : goal.returns
returns c rest is =
    all_put first_of c.loop-name.made _ c.loop-name.name-iterator.rest.items (omega (arith, c.loop-name.name-iterator.rest.ok.0, c.in-None.ensures.steps.0)) c.loop-name.invariant
    ∙ ap (λ es. with_own first_of es (first_values c.args.own.now)) is
    ∙ own_first_values c.args.own.now rest
