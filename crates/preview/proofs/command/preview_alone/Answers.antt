use Rattle.preview.proofs.PlayLemmas.{untold}
use Rattle.preview.proofs.command.preview_alone.Goals as goal

pub returns-in_default-clause-talk : goal.returns-in_default-clause-talk
returns-in_default-clause-talk g c = untold c.args.seed c.args.steps.now (g.S.Source.left c.args.source.now) (g.K.Sink.faults c.args.sink.now) (g.K.Sink.taken c.args.sink.now)
