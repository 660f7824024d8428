use Rattle.std.proofs.Common.{[]}
use Rattle.talk_words.specs.Standing.{standing_of}
use Rattle.compiled_pages.specs.Pages.{needs_at}
use Rattle.talk_words.proofs.GrownLemmas.{one_history}
use Rattle.talk_words.specs.Connection.{Connection, Stand, connection_of, stand_of}
use Rattle.pages_talk.proofs.connection.talk.Goals as goal

pub returns-clause-talk : goal.returns-clause-talk
returns-clause-talk g c = (c.walk.new.desk.draft, rw (c.new-desk.ensures.role, c.new-desk.ensures.draft) at c.walk.ensures.talk)

pub returns-clause-grown : goal.returns-clause-grown
returns-clause-grown g c =
    let w : Connection = connection_of needs_at (g.P.Port.opening c.args.port.now) (g.P.Port.pass c.args.port.now) c.args.role in
    let start : Stand = stand_of [] (standing_of (g.P.Port.seen c.args.port.now) (g.C.Clock.moments c.args.clock.now) c.args.steps.now) in
    let now : Stand = stand_of c.walk.new.desk.draft (standing_of (g.P.Port.seen c.walk.new.port) (g.C.Clock.moments c.walk.new.clock) c.walk.new.count) in
    one_history w start now (g.S.Source.left c.args.source.now) (g.S.Source.left c.walk.new.source) (g.K.Sink.faults c.args.sink.now) (g.K.Sink.faults c.walk.new.sink) (g.K.Sink.taken c.args.sink.now) (g.K.Sink.taken c.walk.new.sink) c.walk.result
    c.requires.idle c.law.ensures.legal (rw (c.new-desk.ensures.role, c.new-desk.ensures.draft) at c.walk.ensures.talk)
