use Rattle.std.proofs.Common.{sym, ◌∙◌}
use Rattle.talk_words.specs.Standing.{Standing, standing_of}
use Rattle.compiled_pages.specs.Pages.{needs_at}
use Rattle.talk_words.proofs.ServedLemmas.{served_beside, served_grown, served_on}
use Rattle.talk_words.specs.Connection.{Connection, Stand, connection_of, stand_of}
use Rattle.talk_words.specs.declared.way.Way.TheVariants.{Asks, Edits, Nowhere}
use Rattle.pages_talk.proofs.desk.PortDeskDesk.serve.Goals as goal

pub returns-in-Edits-clause-served : goal.returns-in-Edits-clause-served
returns-in-Edits-clause-served g c =
    let w : Connection = connection_of needs_at (g.P.Port.opening c.args.port.now) (g.P.Port.pass c.args.port.now) c.args.self.now.role in
    let old : Stand = stand_of c.args.self.now.draft (standing_of (g.P.Port.seen c.args.port.now) (g.C.Clock.moments c.args.clock.now) c.args.count.now) in
    let new : Stand = stand_of c.edit.new.draft (standing_of (g.P.Port.seen c.edit.new.port) (g.C.Clock.moments c.args.clock.now) c.args.count.now) in
    served_on w Edits c.args.close c.args.request old new (g.K.Sink.faults c.args.sink.now) (g.K.Sink.faults c.edit.new.sink) (g.K.Sink.taken c.args.sink.now) (g.K.Sink.taken c.edit.new.sink) c.edit.result
    (sym c.way_for.ensures ∙ c.in-Edits.is) (c.edit.ensures.served c.args.self.now.role (g.C.Clock.moments c.args.clock.now) c.args.count.now)

pub returns-in-Edits-clause-ready : goal.returns-in-Edits-clause-ready
returns-in-Edits-clause-ready g c =
    let w : Connection = connection_of needs_at (g.P.Port.opening c.args.port.now) (g.P.Port.pass c.args.port.now) c.args.self.now.role in
    let old : Stand = stand_of c.args.self.now.draft (standing_of (g.P.Port.seen c.args.port.now) (g.C.Clock.moments c.args.clock.now) c.args.count.now) in
    let new : Stand = stand_of c.edit.new.draft (standing_of (g.P.Port.seen c.edit.new.port) (g.C.Clock.moments c.args.clock.now) c.args.count.now) in
    let served = served_on w Edits c.args.close c.args.request old new (g.K.Sink.faults c.args.sink.now) (g.K.Sink.faults c.edit.new.sink) (g.K.Sink.taken c.args.sink.now) (g.K.Sink.taken c.edit.new.sink) c.edit.result
    (sym c.way_for.ensures ∙ c.in-Edits.is) (c.edit.ensures.served c.args.self.now.role (g.C.Clock.moments c.args.clock.now) c.args.count.now) in
    let grown = served_grown w c.args.close c.args.request old new (g.K.Sink.faults c.args.sink.now) (g.K.Sink.faults c.edit.new.sink) (g.K.Sink.taken c.args.sink.now) (g.K.Sink.taken c.edit.new.sink) c.edit.result c.requires.ready c.law.ensures.legal served in
    rw (c.edit.ensures.same.0, c.edit.ensures.same.1) grown.idle

pub returns-in-Nowhere-clause-served : goal.returns-in-Nowhere-clause-served
returns-in-Nowhere-clause-served g c =
    let w : Connection = connection_of needs_at (g.P.Port.opening c.args.port.now) (g.P.Port.pass c.args.port.now) c.args.self.now.role in
    let at : Stand = stand_of c.args.self.now.draft (standing_of (g.P.Port.seen c.args.port.now) (g.C.Clock.moments c.args.clock.now) c.args.count.now) in
    served_on w Nowhere c.args.close c.args.request at at (g.K.Sink.faults c.args.sink.now) (g.K.Sink.faults c.find_nothing.new.sink) (g.K.Sink.taken c.args.sink.now) (g.K.Sink.taken c.find_nothing.new.sink) c.find_nothing.result
    (sym c.way_for.ensures ∙ c.in-Nowhere.is) (c.find_nothing.ensures.served w at)

pub returns-clause-served : goal.returns-clause-served
returns-clause-served g c =
    let w : Connection = connection_of needs_at (g.P.Port.opening c.args.port.now) (g.P.Port.pass c.args.port.now) c.args.self.now.role in
    let old : Standing = standing_of (g.P.Port.seen c.args.port.now) (g.C.Clock.moments c.args.clock.now) c.args.count.now in
    let new : Standing = standing_of (g.P.Port.seen c.respond.new.port) (g.C.Clock.moments c.respond.new.clock) c.respond.new.steps in
    served_on w Asks c.args.close c.args.request (stand_of c.args.self.now.draft old) (stand_of c.args.self.now.draft new) (g.K.Sink.faults c.args.sink.now) (g.K.Sink.faults c.respond.new.sink) (g.K.Sink.taken c.args.sink.now) (g.K.Sink.taken c.respond.new.sink) c.respond.result
    (sym c.way_for.ensures ∙ c.in-Asks.is)
    (served_beside w c.args.self.now.draft c.args.close c.args.request old new (g.K.Sink.faults c.args.sink.now) (g.K.Sink.faults c.respond.new.sink) (g.K.Sink.taken c.args.sink.now) (g.K.Sink.taken c.respond.new.sink) c.respond.result c.respond.ensures.served)
