use Rattle.conversation.proofs.ServedLemmas.{served_map}
use Rattle.context_words.specs.Parts.{Lent, Part, lent_of, part_of, stand_at}
use Rattle.conversation.specs.Exchange.{Exchange}
use Rattle.http_in.specs.declared.request.Request.{Request}
use Rattle.page_answers.specs.Standing.{standing_of}
use Rattle.compiled_pages.specs.Pages.{needs_at}
use Rattle.talk_words.specs.Connection.{Connection, connection_of, stand_of}
use Rattle.talk_words.specs.Said.{IsLeft, IsSaid}
use Rattle.context_talk.proofs.desk.SiteDeskTenant.serve.Goals as goal

pub returns-clause-served : goal.returns-clause-served
returns-clause-served g c =
    let w : Connection = connection_of needs_at (g.P.Port.opening c.args.port.now) (g.P.Port.pass c.args.port.now) c.args.self.now.desk.role in
    served_map (IsSaid w) (IsLeft w)
    (λ close (old : Part × Lent) (e : Exchange) new. IsSaid w close (stand_at old.0 old.1) e (stand_at new.0 new.1))
    (λ close (old : Part × Lent) (request : Request) text new. IsLeft w close (stand_at old.0 old.1) request text (stand_at new.0 new.1))
    c.args.close c.args.request c.args.request
    (stand_of c.args.self.now.desk.draft (standing_of (g.P.Port.seen c.args.port.now) (g.C.Clock.moments c.args.clock.now) c.args.count.now))
    (stand_of c.serve.new.self.draft (standing_of (g.P.Port.seen c.serve.new.port) (g.C.Clock.moments c.serve.new.clock) c.serve.new.count))
    (part_of c.args.self.now.desk.draft (g.P.Port.seen c.args.port.now), lent_of (g.C.Clock.moments c.args.clock.now) c.args.count.now)
    (part_of c.serve.new.self.draft (g.P.Port.seen c.serve.new.port), lent_of (g.C.Clock.moments c.serve.new.clock) c.serve.new.count)
    (g.K.Sink.faults c.args.sink.now) (g.K.Sink.faults c.serve.new.sink) (g.K.Sink.taken c.args.sink.now) (g.K.Sink.taken c.serve.new.sink) c.serve.result
    (λ text broken is. is) (λ text is. is) c.serve.ensures.served
