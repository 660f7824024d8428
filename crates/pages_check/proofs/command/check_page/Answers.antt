use Rattle.std.proofs.Common.{◌∙◌, [], subst, sym}
use Rattle.edges.proofs.ToldBytes.{appends_none}
use Rattle.http_out.specs.Sent.{Sent}
use Rattle.source_tree.specs.declared.limits.TheConstants.{MAX_FILE_BYTES}
use Rattle.whole_input.specs.Come.{HasCome}
use Rattle.pages_check.proofs.ToldLemmas.{told_broken, told_written}
use Rattle.pages_check.proofs.command.check_page.Goals as goal

pub returns-then-failed-clause-told : goal.returns-then-failed-clause-told
returns-then-failed-clause-told g c =
    let old = g.K.Sink.taken c.args.sink.now in
    let new = g.K.Sink.taken c.write.new.sink in
    let sent = subst (Sent old new c.deref-2.result.now) c.if-failed.true (c.write.ensures.sent old [] (appends_none old)) in
    let come = subst (HasCome MAX_FILE_BYTES (g.S.Source.left c.args.source.now) (g.S.Source.left c.read_up_to.new.source)) (sym c.deref.ensures.value) c.in-Ok.ensures.come in
    told_broken c.args.path.now c.deref.result.now c.deref-2.result.now _ _ old new _ _ come (c.deref-2.ensures.value ∙ c.in-Ok-report.ensures.answer.1) sent c.in-Ok-report.ensures.steps

pub returns-clause-told : goal.returns-clause-told
returns-clause-told g c =
    let old = g.K.Sink.taken c.args.sink.now in
    let new = g.K.Sink.taken c.write.new.sink in
    let sent = subst (Sent old new c.deref-2.result.now) c.if-failed.false (c.write.ensures.sent old [] (appends_none old)) in
    let come = subst (HasCome MAX_FILE_BYTES (g.S.Source.left c.args.source.now) (g.S.Source.left c.read_up_to.new.source)) (sym c.deref.ensures.value) c.in-Ok.ensures.come in
    told_written c.args.path.now c.deref.result.now c.deref-2.result.now _ _ old new _ _ _ come c.in-Ok-report.ensures.answer.0 (c.deref-2.ensures.value ∙ c.in-Ok-report.ensures.answer.1) sent
    c.in-Ok-report.ensures.steps
