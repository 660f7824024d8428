use Rattle.std.proofs.Common.{lit<}
use Rattle.pages_talk.proofs.PlayLemmas.{untold}
use Rattle.pages_talk.specs.Play.{opening_of}
use Rattle.pages_talk.proofs.command.play_alone.Goals as goal

pub returns-in_default-clause-talk : goal.returns-in_default-clause-talk
returns-in_default-clause-talk g c = untold (opening_of c.args.seed) (g.C.Clock.moments c.args.clock.now) c.args.steps.now (g.S.Source.left c.args.source.now) (g.K.Sink.faults c.args.sink.now) (g.K.Sink.taken c.args.sink.now) (lit< tt)
