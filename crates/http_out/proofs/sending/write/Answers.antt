use Rattle.std.proofs.Common.{true}
use Rattle.http_out.proofs.SentLemmas.{sent_more}
use Rattle.http_out.proofs.sending.write.Goals as goal

pub returns-in-Err-clause-sent : goal.returns-in-Err-clause-sent
returns-in-Err-clause-sent g c = λ old text was.
    let so_far = rw c.if-failed.false at was in
    sent_more old (g.K.Sink.taken c.args.sink.now) (g.K.Sink.taken c.send.new.sink) text c.args.bytes.now true so_far c.in-Err.ensures.front
