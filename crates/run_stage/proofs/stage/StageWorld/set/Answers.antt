use Rattle.std.proofs.Common.{refl}
use Rattle.pg_value.specs.Value.{datum_of}
use Rattle.run_stage.proofs.ScopeMoves.{set_doing}
use Rattle.run_stage.proofs.stage.StageWorld.set.Goals as goal

pub returns-clause-does : goal.returns-clause-does
returns-clause-does g c = set_doing c.args.self.now c.set.new.self c.args.scope c.args.name.now (datum_of c.args.value) c.set.result c.set.ensures.answer c.set.ensures.ok c.set.ensures.err refl
