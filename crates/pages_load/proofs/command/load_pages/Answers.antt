use Rattle.std.proofs.Common.{[]}
use Rattle.http_out.proofs.SentLemmas.{sent_none}
use Rattle.pages_load.proofs.command.load_pages.Goals as goal

pub returns-then-failed-clause-broken : goal.returns-then-failed-clause-broken
returns-then-failed-clause-broken g c is = record {
  lines = c.in-Ok.lines.items;
  report = c.in-Ok.ensures.told;
  sent = rw (c.if-failed.true, c.deref.ensures.value) at (c.write.ensures.sent (g.K.Sink.taken c.args.sink.now) [] (sent_none (g.K.Sink.taken c.args.sink.now)));
}

pub returns-clause-told : goal.returns-clause-told
returns-clause-told g c is = record {
  lines = c.in-Ok.lines.items;
  report = c.in-Ok.ensures.told;
  sent = rw (c.if-failed.false, c.deref.ensures.value) at (c.write.ensures.sent (g.K.Sink.taken c.args.sink.now) [] (sent_none (g.K.Sink.taken c.args.sink.now)));
}
