use Rattle.std.proofs.Common.{ap, arith, ◌∙◌}
use Rattle.page_meaning.specs.Request.{all_values}
use Rattle.run_parts.specs.Records.{list_before}
use Rattle.run_parts.proofs.OwnParams.{all_put, own_all_values, with_own}
use Rattle.run_parts.proofs.param_records.with_all_values.Goals as goal

pub returns : goal.returns
returns c rest is =
    all_put list_before c.loop-name.made _ c.loop-name.name-iterator.rest.items (omega (arith, c.loop-name.name-iterator.rest.ok.0, c.in-None.ensures.steps.0)) c.loop-name.invariant
    ∙ ap (λ es. with_own list_before es (all_values c.args.own.now)) is
    ∙ own_all_values c.args.own.now rest
