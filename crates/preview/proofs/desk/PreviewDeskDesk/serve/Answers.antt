use Rattle.compiled_pages.specs.Pages.{needs_at}
use Rattle.std.proofs.Common.{sym, ◌∙◌}
use Rattle.preview.proofs.AskedLemmas.{edited_served, method_served}
use Rattle.preview_words.specs.Previewed.{preview_stand}
use Rattle.preview.proofs.desk.PreviewDeskDesk.serve.Goals as goal

pub returns-then-is_editors-clause-served : goal.returns-then-is_editors-clause-served
returns-then-is_editors-clause-served g c =
    edited_served needs_at (g.P.Port.opening c.args.port.now) (g.P.Port.pass c.args.port.now) c.args.close c.args.request (preview_stand c.args.self.now.draft (g.P.Port.seen c.args.port.now) c.args.count.now)
    (preview_stand c.edit.new.draft (g.P.Port.seen c.args.port.now) c.args.count.now) (g.K.Sink.faults c.args.sink.now) (g.K.Sink.faults c.edit.new.sink) (g.K.Sink.taken c.args.sink.now) (g.K.Sink.taken c.edit.new.sink) c.edit.result
    (sym c.is_editors.ensures ∙ c.if-is_editors.true) (c.edit.ensures.served (g.P.Port.seen c.args.port.now) c.args.count.now)

pub returns-then-not-takes_method-clause-served : goal.returns-then-not-takes_method-clause-served
returns-then-not-takes_method-clause-served g c =
    method_served needs_at (g.P.Port.opening c.args.port.now) (g.P.Port.pass c.args.port.now) c.args.close c.args.request (preview_stand c.args.self.now.draft (g.P.Port.seen c.args.port.now) c.args.count.now)
    (g.K.Sink.faults c.args.sink.now) (g.K.Sink.faults c.tell.new.sink) (g.K.Sink.taken c.args.sink.now) (g.K.Sink.taken c.tell.new.sink) c.tell.result
    (sym c.is_editors.ensures ∙ c.if-is_editors.false) (sym c.takes_method.ensures ∙ c.if-not-takes_method.true) c.tell.ensures.told
