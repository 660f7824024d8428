use Rattle.std.proofs.Common.{◌≡◌, ◌∙◌, ◌∷◌, ap}
use Rattle.page_code.specs.declared.op.Op.TheVariants as ops
use Rattle.pg_value.specs.Value.{datum_of}
use Rattle.run_moves.proofs.QuickExits.{made_of}
use Rattle.run_moves.proofs.frequent.binary_top.Goals as goal

pub returns : goal.returns
returns c =
    let seen = datum_of c.in-Some.right ∷ datum_of c.in-Some-pop.left ∷ c.pop-2.new.self in
    let held : c.args.stack.now ≡ seen = c.in-Some.ensures ∙ ap (λ xs. datum_of c.in-Some.right ∷ xs) c.in-Some-pop.ensures in
    made_of (ops.Binary c.args.op) c.args.stack.now seen c.push_made.new.stack c.binary-made.result c.push_made.result held c.binary-made.ensures c.push_made.ensures
