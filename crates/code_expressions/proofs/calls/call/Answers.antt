use Rattle.std.proofs.Common.{◌≡◌, IfOk, sym, subst, ◌∙◌}
use Rattle.code_expressions.specs.Calls.{call_code}
use Rattle.code_expressions.proofs.calls.call.Goals as goal

pub returns-in-Some : goal.returns-in-Some
returns-in-Some c =
    subst (λ found. IfOk c.called.result (λ code. code ≡ call_code c.args.ground.now c.args.place.now found c.args.count c.args.arguments))
    (sym c.in-Some.is ∙ c.of_name.ensures) c.called.ensures

pub returns-in-None : goal.returns-in-None
returns-in-None c =
    subst (λ found. IfOk c.constant.result (λ code. code ≡ call_code c.args.ground.now c.args.place.now found c.args.count c.args.arguments))
    (sym c.in-None.is ∙ c.of_name.ensures) c.constant.ensures
