use Rattle.dispatch.proofs.CameLemmas.{came_finished, fault_rose, headed_at}
use Rattle.dispatch.proofs.AnsweredLemmas.{replies_starve}
use Rattle.dispatch.proofs.serving.finish.Goals as goal
use Rattle.dispatch.specs.Started.{origin_of}
use Rattle.dispatch.specs.Replied.{response_in}
use Rattle.http_out.specs.Response.{wire}
use Rattle.compiled_pages.specs.Pages.{needs_at}
use Rattle.page_meaning.specs.Response.{closing}
use Rattle.pass_course.proofs.CourseLemmas.{done_acts}
use Rattle.site_words.specs.declared.words.Op.TheVariants as op
use Rattle.site_words.specs.declared.words.Reply.TheVariants as reply

pub returns-in-Ok-clause-came : goal.returns-in-Ok-clause-came
returns-in-Ok-clause-came g c = λ p old moments now is begun replies.
    let port = c.args.port.now in
    let x = g.Q.Port.opening port in
    let pass = g.Q.Port.pass port in
    let state = c.args.state in
    let new = g.Q.Port.seen c.end.new.self in
    let ran = replies.ran in
    let wrote = c.in-Ok.ensures.wrote (origin_of p) state.scopes ran.asking ran.after ran.stood (headed_at p c.args.under_way.number c.args.under_way.incoming.close c.args.under_way.incoming.shown state.around state.writer is ran.headed) replies.is_open in
    came_finished x pass old moments p begun new now (g.Q.Port.seen port) state (g.K.Sink.taken c.args.sink.now) (g.K.Sink.taken c.write_reply.new.sink) (g.K.Sink.faults c.args.sink.now) (g.K.Sink.faults c.write_reply.new.sink) c.args.under_way.number c.args.under_way.incoming.close c.args.under_way.incoming.shown c.args.reply
    c.in-Ok.outcome c.into_session.result replies is wrote c.into_session.ensures (done_acts needs_at x pass (g.Q.Port.seen port) new (op.End c.args.under_way.number c.into_session.result) reply.Ended c.end.ensures.call)

pub returns-in-Ok-clause-failed : goal.returns-in-Ok-clause-failed
returns-in-Ok-clause-failed g c = λ p now is replies failed.
    let state = c.args.state in
    let ran = replies.ran in
    let wrote = c.in-Ok.ensures.wrote (origin_of p) state.scopes ran.asking ran.after ran.stood (headed_at p c.args.under_way.number c.args.under_way.incoming.close c.args.under_way.incoming.shown state.around state.writer is ran.headed) replies.is_open in
    let response = response_in state.writer c.args.reply ran.after in
    fault_rose p.taken p.faults (wire (closing c.args.under_way.incoming.close response) c.args.under_way.incoming.shown) response.broken ran.after.writer.pieces (g.K.Sink.taken c.write_reply.new.sink) (g.K.Sink.faults c.write_reply.new.sink) c.in-Ok.outcome failed wrote

pub returns-in-Err-clause-came : goal.returns-in-Err-clause-came
returns-in-Err-clause-came g c = λ p old moments now is begun replies.
    let port = c.args.port.now in
    let x = g.Q.Port.opening port in
    let pass = g.Q.Port.pass port in
    let state = c.args.state in
    let ran = replies.ran in
    let wrote = c.in-Err.ensures.wrote (origin_of p) state.scopes ran.asking ran.after ran.stood (headed_at p c.args.under_way.number c.args.under_way.incoming.close c.args.under_way.incoming.shown state.around state.writer is ran.headed) replies.is_open in
    c.abandon.ensures.came p old moments now state.writer.head ran.after is begun (replies_starve x pass p (g.Q.Port.seen port) now state (g.K.Sink.taken c.args.sink.now) (g.K.Sink.faults c.args.sink.now) c.args.reply replies) wrote.0 wrote.1
