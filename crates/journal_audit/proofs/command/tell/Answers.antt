use Rattle.std.proofs.Common.{[], subst}
use Rattle.edges.proofs.ToldBytes.{appends_none}
use Rattle.http_out.specs.Sent.{Sent}
use Rattle.journal_audit.proofs.Commands.{shown_broken, shown_whole}
use Rattle.journal_audit.proofs.command.tell.Goals as goal

pub returns-then-failed-clause-shown : goal.returns-then-failed-clause-shown
returns-then-failed-clause-shown g c =
    let old = g.K.Sink.taken c.args.sink.now in
    let new = g.K.Sink.taken c.write.new.sink in
    let sent = subst (Sent old new c.args.line.now) c.if-failed.true (c.write.ensures.sent old [] (appends_none old)) in
    shown_broken c.args.answer.now c.args.line.now old new c.requires sent

pub returns-else-failed-clause-shown : goal.returns-else-failed-clause-shown
returns-else-failed-clause-shown g c =
    let old = g.K.Sink.taken c.args.sink.now in
    let new = g.K.Sink.taken c.write.new.sink in
    let sent = subst (Sent old new c.args.line.now) c.if-failed.false (c.write.ensures.sent old [] (appends_none old)) in
    shown_whole c.args.answer.now c.args.line.now old new c.status_of.result c.requires sent c.status_of.ensures
