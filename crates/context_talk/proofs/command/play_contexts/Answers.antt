use Rattle.std.proofs.Common.{refl}
use Rattle.context_talk.proofs.PlayLemmas.{untold_alone}
use Rattle.conversation.specs.declared.ended.Ended.TheVariants.{NoMemory}
use Rattle.context_talk.proofs.command.play_contexts.Goals as goal

pub returns-in-Err-clause-talk : goal.returns-in-Err-clause-talk
returns-in-Err-clause-talk g c = λ names seed is.
    (NoMemory, refl, untold_alone names seed (g.C.Clock.moments c.args.clock.now) c.args.steps.now (g.S.Source.left c.args.source.now) (g.K.Sink.faults c.args.sink.now) (g.K.Sink.taken c.args.sink.now))
