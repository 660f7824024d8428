use Rattle.std.proofs.Common.{◌∷◌}
use Rattle.page_code.specs.declared.op.Op.TheVariants as ops
use Rattle.pg_value.specs.Value.{datum_of}
use Rattle.run_moves.proofs.QuickExits.{made_of}
use Rattle.run_moves.proofs.frequent.unary_top.Goals as goal

pub returns : goal.returns
returns c =
    made_of (ops.Unary c.args.op) c.args.stack.now (datum_of c.in-Some.value ∷ c.pop.new.self) c.push_made.new.stack c.answered-made.result c.push_made.result c.in-Some.ensures c.answered-made.ensures c.push_made.ensures
