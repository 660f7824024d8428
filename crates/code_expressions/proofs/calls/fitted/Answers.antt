use Rattle.code_expressions.proofs.CallLemmas.{fitted_by}
use Rattle.code_expressions.proofs.calls.fitted.Goals as goal

pub returns : goal.returns
returns c =
    fitted_by c.args.ground.now c.in_ok-above.above c.args.place.now c.args.given c.args.wanted c.min-kept.result c.in_ok-code.code c.in_ok-pops.field-0 c.join.new.self
    c.min-kept.ensures c.in_ok-above.ensures c.in_ok-code.ensures c.in_ok-pops.ensures c.in_ok-join.ensures.ok
