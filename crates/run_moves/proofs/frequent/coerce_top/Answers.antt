use Rattle.std.proofs.Common.{◌∷◌}
use Rattle.page_code.specs.declared.op.Op.TheVariants as ops
use Rattle.pg_value.specs.Value.{datum_of}
use Rattle.run_moves.proofs.QuickExits.{made_of, made_stays}
use Rattle.run_moves.proofs.frequent.coerce_top.Goals as goal

pub returns-then-is_coerced : goal.returns-then-is_coerced
returns-then-is_coerced c = made_stays c.args.coercion c.args.stack.now c.in-Some.ensures.0 c.in-Some.top.now c.in-Some.ensures.1 (c.is_coerced.ensures c.if-is_coerced.true)

pub returns : goal.returns
returns c =
    made_of (ops.Coerce c.args.coercion) c.args.stack.now (datum_of c.in-Some-pop.value ∷ c.pop.new.self) c.push_made.new.stack c.coerced-made.result c.push_made.result c.in-Some-pop.ensures c.coerced-made.ensures c.push_made.ensures
