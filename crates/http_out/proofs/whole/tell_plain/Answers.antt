use Rattle.std.proofs.Common.{◌≡◌, ◌++◌, [], rules}
use Rattle.std.specs.Prelude.{codes}
use Rattle.http_out.specs.Head.{plain_head}
use Rattle.http_out.proofs.SentLemmas.{sent_none}
use Rattle.http_out.proofs.whole.tell_plain.Goals as goal

pub returns-clause-sent : goal.returns-clause-sent
returns-clause-sent g c =
    let taken = g.K.Sink.taken c.args.sink.now in
    let head : c.plain-head.result ≡ plain_head c.args.status c.args.close = c.plain-head.ensures in
    let body : c.deref.result.now ≡ c.args.line.now ++ codes "\n" = search rules in
    (rw (head, body) at c.in_ok-write_whole.ensures.sent) taken [] (sent_none taken)
