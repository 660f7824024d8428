use Rattle.std.proofs.Common.{◌∙◌}
use Rattle.compiled_pages.specs.MadeLaws.{made_by}
use Rattle.compiled_pages.specs.Made.{IsMadeBy}
use Rattle.translator.proofs.translating.translate.Goals as goal

pub returns-clause-made : goal.returns-clause-made
returns-clause-made c = λ tree path is.
    let by : IsMadeBy (record { deps = c.in_ok-deps.deps; body = c.in_ok-body.body }) c.args.unit.now = record { deps = c.in_ok-deps.ensures ∙ c.as_slice.ensures; body = c.in_ok-body.ensures } in
    made_by _ c.args.unit.now tree path by is
