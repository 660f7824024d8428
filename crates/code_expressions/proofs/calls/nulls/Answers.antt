use Rattle.std.proofs.Common.{ap, ◌∙◌, ◌++◌}
use Rattle.code_expressions.proofs.CallLemmas.{nulls_end, nulls_from}
use Rattle.code_expressions.proofs.calls.nulls.Goals as goal

pub loop-left-preserved : goal.loop-left-preserved
loop-left-preserved c =
    nulls_from c.loop-left.above c.args.place.now c.loop-left.left c.loop-left.code c.join.new.self _ c.in_ok-above-2.above c.loop-left-test.true
    (c.in_ok-join.ensures.ok ∙ ap (λ code. c.loop-left.code ++ code) c.in_ok-constant.ensures) c.in_ok-above-2.ensures c.loop-left.invariant

pub returns : goal.returns
returns c = nulls_end c.loop-left.above c.args.place.now c.loop-left.left c.loop-left.code _ c.loop-left-test.false c.loop-left.invariant
