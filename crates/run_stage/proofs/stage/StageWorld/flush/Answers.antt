use Rattle.out_buffer.specs.Writer.{flush}
use Rattle.run_stage.proofs.StageMoves.{flush_front, writer_ok}
use Rattle.run_stage.proofs.stage.StageWorld.flush.Goals as goal

pub returns-clause-ok : goal.returns-clause-ok
returns-clause-ok g c =
    writer_ok g.K.Sink.taken g.K.Sink.faults g.P.AppPort.leads g.P.AppPort.asking g.P.AppPort.tree c.args.self.now flush (λ w. flush_front w.kept w) c.flush.new.self c.flush.new.sink c.flush.result c.flush.ensures.stands c.flush.ensures.head.0 c.flush.ensures.head.1
