use Rattle.std.proofs.Common.{[]}
use Rattle.compiled_pages.specs.Pages.{needs_at}
use Rattle.preview_words.specs.Previewed.{preview_stand}
use Rattle.preview.proofs.connection.preview.Goals as goal

pub returns-clause-talk : goal.returns-clause-talk
returns-clause-talk g c = record { draft = c.walk.new.desk.draft; talk = rw c.new-desk.ensures at c.walk.ensures.talk }

pub returns-clause-alone : goal.returns-clause-alone
returns-clause-alone g c =
    c.pictures.ensures.alone needs_at (g.P.Port.opening c.args.port.now) (g.P.Port.pass c.args.port.now) (preview_stand [] (g.P.Port.seen c.args.port.now) c.args.steps.now)
    (preview_stand c.walk.new.desk.draft (g.P.Port.seen c.walk.new.port) c.walk.new.count) (g.S.Source.left c.args.source.now) (g.S.Source.left c.walk.new.source) (g.K.Sink.faults c.args.sink.now) (g.K.Sink.faults c.walk.new.sink)
    (g.K.Sink.taken c.args.sink.now) (g.K.Sink.taken c.walk.new.sink) c.walk.result (rw c.new-desk.ensures at c.walk.ensures.talk)
