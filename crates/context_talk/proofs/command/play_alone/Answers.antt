use Rattle.std.proofs.Common.{refl}
use Rattle.context_talk.proofs.PlayLemmas.{all_idle, ports_even, talked, untold_alone}
use Rattle.context_talk.proofs.command.play_alone.Goals as goal

pub returns-in_default-clause-talk : goal.returns-in_default-clause-talk
returns-in_default-clause-talk g c =
    untold_alone c.args.sites.names.now c.args.sites.seed (g.C.Clock.moments c.args.clock.now) c.args.steps.now (g.S.Source.left c.args.source.now) (g.K.Sink.faults c.args.sink.now) (g.K.Sink.taken c.args.sink.now)

pub talk_contexts-requires-clause-ports : goal.talk_contexts-requires-clause-ports
talk_contexts-requires-clause-ports g c = ports_even (λ port. port.actor.site) c.args.sites.names.now c.args.sites.seed c.in-Ok.ports.ports.items c.in-Ok.ensures

pub talk_contexts-requires-clause-idle : goal.talk_contexts-requires-clause-idle
talk_contexts-requires-clause-idle g c = λ context port at. all_idle (λ port. port.actor.site) c.args.sites.names.now c.args.sites.seed c.in-Ok.ports.ports.items c.in-Ok.ensures context port at

pub returns-clause-talk : goal.returns-clause-talk
returns-clause-talk g c =
    talked (λ port. port.actor.site) c.args.sites.names.now c.args.sites.seed c.in-Ok.ports.ports.items c.in-Ok.ensures _ _ _ (g.C.Clock.moments c.args.clock.now) (g.C.Clock.moments c.talk_contexts.new.clock) c.args.steps.now c.talk_contexts.new.steps
    (g.S.Source.left c.args.source.now) (g.S.Source.left c.talk_contexts.new.source) (g.K.Sink.faults c.args.sink.now) (g.K.Sink.faults c.talk_contexts.new.sink) (g.K.Sink.taken c.args.sink.now) (g.K.Sink.taken c.talk_contexts.new.sink) c.talk_contexts.result
    refl refl c.talk_contexts.ensures.talk
