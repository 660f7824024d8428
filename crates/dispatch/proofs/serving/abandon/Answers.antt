use Rattle.std.proofs.Common.{◌≡◌, [], false, true}
use Rattle.dispatch.proofs.CameLemmas.{came_abandoned}
use Rattle.dispatch.proofs.serving.abandon.Goals as goal
use Rattle.compiled_pages.specs.Pages.{needs_at}
use Rattle.pass_course.proofs.CourseLemmas.{done_acts}
use Rattle.site_words.specs.declared.words.Op.TheVariants as op
use Rattle.site_words.specs.declared.words.Reply.TheVariants as reply

pub returns-clause-came : goal.returns-clause-came
returns-clause-came g c = λ p old moments now head reached is begun starves none taken.
    let port = c.args.port.now in
    let x = g.Q.Port.opening port in
    let pass = g.Q.Port.pass port in
    let new = g.Q.Port.seen c.abandon.new.self in
    came_abandoned x pass old moments p begun new now (g.Q.Port.seen port) head reached c.write_no_memory.new.failed (g.K.Sink.taken c.write_no_memory.new.sink) (g.K.Sink.faults c.write_no_memory.new.sink) c.args.under_way.number c.args.under_way.incoming.close c.args.under_way.incoming.shown is starves none
    (done_acts needs_at x pass (g.Q.Port.seen port) new (op.Abandon c.args.under_way.number) reply.Dropped c.abandon.ensures.call) (c.write_no_memory.ensures.sent p.taken [] taken.sent)
    (c.write_no_memory.ensures.rose p.faults taken.later (λ (h : false ≡ true). absurd (cc)))
