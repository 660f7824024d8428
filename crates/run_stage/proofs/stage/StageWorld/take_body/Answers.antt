use Rattle.std.proofs.Common.{ap, refl}
use Rattle.out_buffer.specs.Held.{Held}
use Rattle.run_stage.proofs.StageMoves.{taken_doing}
use Rattle.run_stage.proofs.stage.StageWorld.take_body.Goals as goal

pub returns-clause-does : goal.returns-clause-does
returns-clause-does g c =
    taken_doing c.args.self.now c.take_body.new.self c.take_body.result c.take_body.ensures.answer c.take_body.ensures.stands (ap (λ (x : Held). x.head) c.take_body.ensures.taken)
    (ap (λ (x : Held). x.shown) c.take_body.ensures.taken) refl
