use Rattle.std.proofs.Common.{refl}
use Rattle.run_stage.proofs.StageMoves.{put_doing}
use Rattle.run_stage.proofs.stage.StageWorld.put.Goals as goal

pub returns-clause-does : goal.returns-clause-does
returns-clause-does g c = put_doing c.args.self.now c.put.new.self c.put.new.sink c.args.text.now c.put.result c.put.ensures.comes c.put.ensures.head.0 c.put.ensures.head.1 c.put.ensures.err refl
