use Rattle.pass_course.specs.Course.{IsIdle}
use Rattle.pages_serve.proofs.Conversed.{conversed_among}
use Rattle.pages_serve.proofs.Ports.{all_of, each_of, same_number}
use Rattle.pages_serve.proofs.context_pages.talk_uncounted.Goals as goal

pub talk_contexts-requires-clause-idle : goal.talk_contexts-requires-clause-idle
talk_contexts-requires-clause-idle g c = each_of (λ port. IsIdle (g.P.Port.opening port) (g.P.Port.pass port) (g.P.Port.seen port)) c.args.ports.now.ports.items c.requires.idle

pub returns-clause-idle : goal.returns-clause-idle
returns-clause-idle g c = all_of (λ port. IsIdle (g.P.Port.opening port) (g.P.Port.pass port) (g.P.Port.seen port)) c.talk_contexts.new.ports.ports.items c.talk_contexts.ensures.idle

pub returns-clause-number : goal.returns-clause-number
returns-clause-number g c = same_number g.P.Port.opening g.P.Port.pass g.P.Port.home c.args.pages.now.role c.args.ports.now.ports.items c.talk_contexts.new.ports.ports.items c.talk_contexts.ensures.same

pub returns-clause-talked : goal.returns-clause-talked
returns-clause-talked g c =
    conversed_among c.args.pages.now.names.now c.args.pages.now.role g.P.Port.opening g.P.Port.pass g.P.Port.home g.P.Port.seen c.args.ports.now.ports.items c.talk_contexts.new.ports.ports.items _ _ _ _ _ _ _ _ _ c.talk_contexts.ensures.same c.talk_contexts.ensures.talk
