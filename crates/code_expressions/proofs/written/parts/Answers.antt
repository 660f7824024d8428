use Rattle.std.proofs.Common.{◌≡◌, IfOk, length, arith, subst}
use Rattle.code_expressions.proofs.PartLemmas.{joined_is}
use Rattle.code_expressions.proofs.written.parts.Goals as goal

pub returns-else-parts-eq1 : goal.returns-else-parts-eq1
returns-else-parts-eq1 c =
    let many : length c.args.parts.now ≡ 1 → ⊥ = λ e. omega (arith, e) in
    subst (λ cells. IfOk c.joined.result (λ code. code ≡ cells)) (joined_is c.args.ground.now c.args.place.now c.args.parts.now many) c.joined.ensures
