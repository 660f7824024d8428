use Rattle.std.proofs.Common.{map, length, sym, ap, ◌∙◌}
use Rattle.context_desk.specs.Each.{each}
use Rattle.context_talk.proofs.AmongLemmas.{fresh_parts, fresh_places, other_has, same_ports, seen_parts, untold}
use Rattle.context_talk.specs.Among.{connections_of}
use Rattle.context_words.specs.Parts.{lent_of, part_of}
use Rattle.context_talk.proofs.connection.talk_contexts.Goals as goal

pub walk-requires : goal.walk-requires
walk-requires g c = record { ready = (c.in-Ok.ensures.count ∙ c.len.ensures.count, c.requires.ports, λ context d port one two. c.requires.idle context port two) }

pub returns-in_default-clause-talk : goal.returns-in_default-clause-talk
returns-in_default-clause-talk g c =
    untold c.args.names.now (connections_of g.P.Port.opening g.P.Port.pass g.P.Port.home c.args.role c.args.ports.now.ports.items) (map g.P.Port.seen c.args.ports.now.ports.items)
    (lent_of (g.C.Clock.moments c.args.clock.now) c.args.steps.now) (g.S.Source.left c.args.source.now) (g.K.Sink.faults c.args.sink.now) (g.K.Sink.taken c.args.sink.now)

pub returns-clause-ports : goal.returns-clause-ports
returns-clause-ports g c = c.walk.ensures.ready.2.1 ∙ ap (λ w. length w.0) c.walk.ensures.world

pub returns-clause-idle : goal.returns-clause-idle
returns-clause-idle g c = λ context port at.
    let beside = other_has c.walk.new.desk.desks.items c.walk.new.port.ports.items context port (c.walk.ensures.ready.2.0 ∙ sym c.walk.ensures.ready.2.1) at in
    c.walk.ensures.ready.2.2 context beside.0 port beside.1 at

pub returns-clause-same : goal.returns-clause-same
returns-clause-same g c =
    same_ports (λ d. d.desk.role) (λ d. d.desk.draft) g.P.Port.opening g.P.Port.pass g.P.Port.home g.P.Port.seen c.args.role c.walk.new.desk.desks.items c.walk.new.port.ports.items c.args.ports.now.ports.items
    (c.walk.ensures.ready.2.0 ∙ sym c.walk.ensures.ready.2.1)
    (ap (λ w. w.1) c.walk.ensures.world
    ∙ fresh_places (λ d. d.desk.role) (λ d. d.desk.draft) g.P.Port.opening g.P.Port.pass g.P.Port.home g.P.Port.seen c.args.role c.in-Ok.desks.items c.args.ports.now.ports.items c.in-Ok.ensures.fresh (c.in-Ok.ensures.count ∙ (c.len.ensures.count ∙ sym c.requires.ports)))

pub returns-clause-talk : goal.returns-clause-talk
returns-clause-talk g c =
    let olds = c.args.ports.now.ports.items in
    let news = c.walk.new.port.ports.items in
    let even = c.in-Ok.ensures.count ∙ (c.len.ensures.count ∙ sym c.requires.ports) in
    let places = fresh_places (λ d. d.desk.role) (λ d. d.desk.draft) g.P.Port.opening g.P.Port.pass g.P.Port.home g.P.Port.seen c.args.role c.in-Ok.desks.items olds c.in-Ok.ensures.fresh even in
    let parts = fresh_parts (λ d. d.desk.role) (λ d. d.desk.draft) g.P.Port.opening g.P.Port.pass g.P.Port.home g.P.Port.seen c.args.role c.in-Ok.desks.items olds c.in-Ok.ensures.fresh even in
    record {
      parts = each (λ d p. part_of d.desk.draft (g.P.Port.seen p)) c.walk.new.desk.desks.items news;
      parts_are = seen_parts (λ d. d.desk.role) (λ d. d.desk.draft) g.P.Port.opening g.P.Port.pass g.P.Port.home g.P.Port.seen c.args.role c.walk.new.desk.desks.items news (c.walk.ensures.ready.2.0 ∙ sym c.walk.ensures.ready.2.1);
      talk = rw (places, parts) at c.walk.ensures.talk;
    }
