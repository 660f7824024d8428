use Rattle.std.proofs.Common.{◌≡◌, ◌<◌, List, [], Some, None, false, length, refl, sym, ap, subst, ◌∙◌, arith}
use Rattle.std.specs.List.{slice_get}
use Rattle.std.specs.Prelude.{slice_set}
use Rattle.std.proofs.lemmas.Option.{slice_get_read}
use Rattle.context_desk.proofs.DeskLemmas.{all_stay, answers_at, answers_nowhere, is_in, leaves_at, leaves_here, length_set, set_ready}
use Rattle.conversation.proofs.ServedLemmas.{served_map, told_served}
use Rattle.context_desk.specs.Each.{each}
use Rattle.context_desk.specs.Several.{Answers, Leaves, Several, nothing_found, retargeted, several_of}
use Rattle.context_names.specs.Targets.{context_of}
use Rattle.conversation.specs.Exchange.{Exchange, exchange_of}
use Rattle.edges.proofs.ToldBytes.{appends_none}
use Rattle.http_in.specs.declared.request.Request.{Request}
use Rattle.context_desk.proofs.desk.ContextDeskDesk.serve.Goals as goal

pub returns-in_default-clause-served : goal.returns-in_default-clause-served
returns-in_default-clause-served g c = record {
  text = [];
  left = leaves_here c.args.self.now.names.now (each g.D.Tenant.place c.args.self.now.desks.items c.args.port.now.ports.items) c.args.close
      (several_of (each g.D.Tenant.own c.args.self.now.desks.items c.args.port.now.ports.items) (g.D.Tenant.lent c.args.clock.now c.args.count.now)) c.args.request g.D.Tenant.leaves;
  failed = false;
  sent = appends_none (g.K.Sink.taken c.args.sink.now);
  cause = λ is. absurd (cc);
}

pub serve-requires-clause-ready : goal.serve-requires-clause-ready
serve-requires-clause-ready g c =
    let within : c.in-Some.context < length c.args.self.now.desks.items = omega (arith, c.in-Some.ensures.within, c.requires.ready.0) in
    let inside : c.in-Some.context < length c.args.port.now.ports.items = omega (arith, c.in-Some.ensures.within, c.requires.ready.1) in
    c.requires.ready.2 c.in-Some.context c.index_mut-desk.result.now c.index_mut-at.result.now
    (slice_get_read c.args.self.now.desks.items (length c.args.self.now.desks.items) c.in-Some.context c.index_mut-desk.result.now refl within c.index_mut-desk.ensures.value)
    (slice_get_read c.args.port.now.ports.items (length c.args.port.now.ports.items) c.in-Some.context c.index_mut-at.result.now refl inside c.index_mut-at.ensures.value)

pub returns-in-Ok-clause-ready : goal.returns-in-Ok-clause-ready
returns-in-Ok-clause-ready g c = (
  length_set c.args.self.now.desks.items c.in-Some.context c.serve.new.self ∙ c.requires.ready.0,
  length_set c.args.port.now.ports.items c.in-Some.context c.serve.new.port ∙ c.requires.ready.1,
  set_ready g.D.Tenant.ready c.args.self.now.desks.items c.args.port.now.ports.items c.in-Some.context c.serve.new.self c.serve.new.port c.requires.ready.2 c.serve.ensures.ready,
)

pub returns-in-Ok-clause-world : goal.returns-in-Ok-clause-world
returns-in-Ok-clause-world g c =
    let within : c.in-Some.context < length c.args.self.now.desks.items = omega (arith, c.in-Some.ensures.within, c.requires.ready.0) in
    let inside : c.in-Some.context < length c.args.port.now.ports.items = omega (arith, c.in-Some.ensures.within, c.requires.ready.1) in
    ap (λ places. (c.args.self.now.names.now, places))
    (all_stay g.D.Tenant.place c.args.self.now.desks.items c.args.port.now.ports.items c.in-Some.context c.index_mut-desk.result.now c.serve.new.self c.index_mut-at.result.now c.serve.new.port
    (slice_get_read c.args.self.now.desks.items (length c.args.self.now.desks.items) c.in-Some.context c.index_mut-desk.result.now refl within c.index_mut-desk.ensures.value)
    (slice_get_read c.args.port.now.ports.items (length c.args.port.now.ports.items) c.in-Some.context c.index_mut-at.result.now refl inside c.index_mut-at.ensures.value)
    c.serve.ensures.place)

pub returns-in-Ok-clause-served : goal.returns-in-Ok-clause-served
returns-in-Ok-clause-served g c =
    let within : c.in-Some.context < length c.args.self.now.desks.items = omega (arith, c.in-Some.ensures.within, c.requires.ready.0) in
    let beside : c.in-Some.context < length c.args.port.now.ports.items = omega (arith, c.in-Some.ensures.within, c.requires.ready.1) in
    let at : slice_get c.args.self.now.desks.items c.in-Some.context ≡ Some c.index_mut-desk.result.now =
    slice_get_read c.args.self.now.desks.items (length c.args.self.now.desks.items) c.in-Some.context c.index_mut-desk.result.now refl within c.index_mut-desk.ensures.value in
    let there : slice_get c.args.port.now.ports.items c.in-Some.context ≡ Some c.index_mut-at.result.now =
    slice_get_read c.args.port.now.ports.items (length c.args.port.now.ports.items) c.in-Some.context c.index_mut-at.result.now refl beside c.index_mut-at.ensures.value in
    let found : context_of c.args.self.now.names.now c.args.request.target ≡ Some (c.in-Some.context, c.in-Some.cut) =
    sym (c.in-Some.ensures.context ∙ ap (λ target. context_of c.args.self.now.names.now target) c.as_bytes.ensures) in
    let place = g.D.Tenant.place c.index_mut-desk.result.now c.index_mut-at.result.now in
    let places : List g.D.Tenant.Place = each g.D.Tenant.place c.args.self.now.desks.items c.args.port.now.ports.items in
    let old : Several g.D.Tenant.Own g.D.Tenant.Lent = several_of (each g.D.Tenant.own c.args.self.now.desks.items c.args.port.now.ports.items) (g.D.Tenant.lent c.args.clock.now c.args.count.now) in
    let new : Several g.D.Tenant.Own g.D.Tenant.Lent = several_of (each g.D.Tenant.own (slice_set c.args.self.now.desks.items c.in-Some.context c.serve.new.self) (slice_set c.args.port.now.ports.items c.in-Some.context c.serve.new.port))
    (g.D.Tenant.lent c.serve.new.clock c.serve.new.count) in
    served_map (λ close (old : g.D.Tenant.Own × g.D.Tenant.Lent) (e : Exchange) new. g.D.Tenant.does place close old.0 old.1 e new.0 new.1)
    (λ close (old : g.D.Tenant.Own × g.D.Tenant.Lent) (request : Request) text new. g.D.Tenant.leaves place close old.0 old.1 request text new.0 new.1)
    (λ close old (e : Exchange) new. Answers c.args.self.now.names.now places g.D.Tenant.does close old e new) (λ close old request text new. Leaves c.args.self.now.names.now places g.D.Tenant.leaves close old request text new)
    c.args.close c.in-Ok.inside c.args.request
    (g.D.Tenant.own c.index_mut-desk.result.now c.index_mut-at.result.now, g.D.Tenant.lent c.args.clock.now c.args.count.now)
    (g.D.Tenant.own c.serve.new.self c.serve.new.port, g.D.Tenant.lent c.serve.new.clock c.serve.new.count) old new
    (g.K.Sink.faults c.args.sink.now) (g.K.Sink.faults c.serve.new.sink) (g.K.Sink.taken c.args.sink.now) (g.K.Sink.taken c.serve.new.sink) c.serve.result
    (λ text broken is.
    answers_at c.args.self.now.names.now places c.args.close old new c.args.request c.in-Some.context c.in-Some.cut found g.D.Tenant.does text broken
    (is_in g.D.Tenant.place g.D.Tenant.own c.args.self.now.desks.items c.args.port.now.ports.items c.in-Some.context c.index_mut-desk.result.now c.serve.new.self c.index_mut-at.result.now c.serve.new.port at there
    (g.D.Tenant.lent c.args.clock.now c.args.count.now) (g.D.Tenant.lent c.serve.new.clock c.serve.new.count)
    (λ place a b a' b'. g.D.Tenant.does place c.args.close a b (exchange_of (retargeted c.in-Some.cut c.args.request) text broken) a' b')
    (subst (λ (r : Request). g.D.Tenant.does place c.args.close (g.D.Tenant.own c.index_mut-desk.result.now c.index_mut-at.result.now) (g.D.Tenant.lent c.args.clock.now c.args.count.now)
    (exchange_of r text broken) (g.D.Tenant.own c.serve.new.self c.serve.new.port) (g.D.Tenant.lent c.serve.new.clock c.serve.new.count))
    c.in-Ok.ensures.request is)))
    (λ text is.
    leaves_at c.args.self.now.names.now places c.args.close old new c.args.request c.in-Some.context c.in-Some.cut found g.D.Tenant.leaves text
    (is_in g.D.Tenant.place g.D.Tenant.own c.args.self.now.desks.items c.args.port.now.ports.items c.in-Some.context c.index_mut-desk.result.now c.serve.new.self c.index_mut-at.result.now c.serve.new.port at there
    (g.D.Tenant.lent c.args.clock.now c.args.count.now) (g.D.Tenant.lent c.serve.new.clock c.serve.new.count)
    (λ place a b a' b'. g.D.Tenant.leaves place c.args.close a b (retargeted c.in-Some.cut c.args.request) text a' b')
    (subst (λ (r : Request). g.D.Tenant.leaves place c.args.close (g.D.Tenant.own c.index_mut-desk.result.now c.index_mut-at.result.now) (g.D.Tenant.lent c.args.clock.now c.args.count.now)
    r text (g.D.Tenant.own c.serve.new.self c.serve.new.port) (g.D.Tenant.lent c.serve.new.clock c.serve.new.count))
    c.in-Ok.ensures.request is)))
    c.serve.ensures.served

pub returns-in-None-clause-served : goal.returns-in-None-clause-served
returns-in-None-clause-served g c =
    let none : context_of c.args.self.now.names.now c.args.request.target ≡ None = sym (c.in-None.ensures.context ∙ ap (λ target. context_of c.args.self.now.names.now target) c.as_bytes.ensures) in
    let places : List g.D.Tenant.Place = each g.D.Tenant.place c.args.self.now.desks.items c.args.port.now.ports.items in
    let at : Several g.D.Tenant.Own g.D.Tenant.Lent = several_of (each g.D.Tenant.own c.args.self.now.desks.items c.args.port.now.ports.items) (g.D.Tenant.lent c.args.clock.now c.args.count.now) in
    told_served (λ close old (e : Exchange) new. Answers c.args.self.now.names.now places g.D.Tenant.does close old e new) (λ close old request text new. Leaves c.args.self.now.names.now places g.D.Tenant.leaves close old request text new)
    c.args.close c.args.request at at (nothing_found c.args.close c.args.request)
    (g.K.Sink.faults c.args.sink.now) (g.K.Sink.faults c.find_nothing.new.sink) (g.K.Sink.taken c.args.sink.now) (g.K.Sink.taken c.find_nothing.new.sink) c.find_nothing.result
    (answers_nowhere c.args.self.now.names.now places c.args.close at c.args.request g.D.Tenant.does none) (leaves_here c.args.self.now.names.now places c.args.close at c.args.request g.D.Tenant.leaves) c.find_nothing.ensures.told
