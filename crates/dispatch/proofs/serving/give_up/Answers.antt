use Rattle.std.proofs.Common.{refl, sym, ◌∙◌}
use Rattle.dispatch.proofs.CameLemmas.{came_cut_off, none_committed, unsent}
use Rattle.dispatch.proofs.serving.give_up.Goals as goal
use Rattle.out_buffer.specs.Streamed.{HasTaken, so_far}
use Rattle.compiled_pages.specs.Pages.{needs_at}
use Rattle.pass_course.proofs.CourseLemmas.{done_acts}
use Rattle.site_words.specs.declared.words.Op.TheVariants as op
use Rattle.site_words.specs.declared.words.Reply.TheVariants as reply
use Rattle.std.proofs.Common.{List, ℕ, subst}

pub returns-then-committed-clause-came : goal.returns-then-committed-clause-came
returns-then-committed-clause-came g c = λ p old moments now state ran is begun committed starves.
    let port = c.args.port.now in
    let x = g.Q.Port.opening port in
    let pass = g.Q.Port.pass port in
    let new = g.Q.Port.seen c.abandon.new.self in
    came_cut_off x pass old moments p begun new now (g.Q.Port.seen port) state (g.K.Sink.taken c.args.sink.now) (g.K.Sink.faults c.args.sink.now) c.args.under_way.number c.args.under_way.incoming.close c.args.under_way.incoming.shown ran is (sym committed ∙ c.if-committed.true) starves
    (done_acts needs_at x pass (g.Q.Port.seen port) new (op.Abandon c.args.under_way.number) reply.Dropped c.abandon.ensures.call)

pub returns-clause-came : goal.returns-clause-came
returns-clause-came g c = λ p old moments now state ran is begun committed starves.
    let held = state.writer in
    let taken = g.K.Sink.taken c.args.sink.now in
    let faults = g.K.Sink.faults c.args.sink.now in
    let pieces = ran.after.writer.pieces in
    let none = none_committed held pieces ran.after.writer refl (sym ran.stood.writer.committed ∙ (sym committed ∙ c.if-committed.false)) in
    c.abandon-2.ensures.came p old moments now held.head ran.after is begun starves none
    (unsent p.taken p.faults held.failed taken faults (subst (λ (pieces : List (List ℕ)). HasTaken p.taken p.faults (so_far held.head held.shown pieces) held.failed taken faults) none ran.stood.writer.streamed))
