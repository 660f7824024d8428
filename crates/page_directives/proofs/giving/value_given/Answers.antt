use Rattle.std.proofs.Common.{◌∙◌, ◌<◌, true, false, length, sym, arith}
use Rattle.page_directives.proofs.GivenLemmas.{value_at}
use Rattle.page_directives.proofs.giving.value_given.Goals as goal

pub returns-then-gives : goal.returns-then-gives
returns-then-gives c =
    let within : c.loop-directive.directive-index < length c.args.before.now = grind arith in
    let here = value_at c.args.giver.now c.args.name.now c.args.own.now c.args.before.now c.loop-directive.directive-index c.directive-item.result true within c.directive-item.is (sym c.if-gives.true ∙ c.gives.ensures) in
    cc

pub loop-directive-preserved : goal.loop-directive-preserved
loop-directive-preserved c =
    let within : c.loop-directive.directive-index < length c.args.before.now = grind arith in
    sym (value_at c.args.giver.now c.args.name.now c.args.own.now c.args.before.now c.loop-directive.directive-index c.directive-item.result false within c.directive-item.is (sym c.if-gives.false ∙ c.gives.ensures))
    ∙ c.loop-directive.invariant
