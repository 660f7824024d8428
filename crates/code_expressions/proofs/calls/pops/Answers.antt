use Rattle.std.proofs.Common.{ap, ◌∙◌, ◌++◌, [], ◌∷◌}
use Rattle.code_expressions.proofs.CallLemmas.{pop, pops_end, pops_from}
use Rattle.code_expressions.proofs.calls.pops.Goals as goal

pub loop-left-preserved : goal.loop-left-preserved
loop-left-preserved c =
    pops_from c.args.ground.now c.args.place.now c.loop-left.left c.loop-left.code c.join.new.self _ c.loop-left-test.true
    (c.in_ok-join.ensures.ok ∙ ap (λ code. c.loop-left.code ++ code) c.in_ok-operation.ensures ∙ ap (λ sh. c.loop-left.code ++ pop sh c.args.place.now ∷ []) c.in_ok-up.ensures)
    c.loop-left.invariant

pub returns : goal.returns
returns c = pops_end c.args.ground.now c.args.place.now c.loop-left.left c.loop-left.code _ c.loop-left-test.false c.loop-left.invariant
