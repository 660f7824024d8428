use Rattle.std.proofs.Common.{ap, arith, length}
use Rattle.site_shared_tests.proofs.VisitLemmas.{fetched}
use Rattle.site_shared_tests.proofs.visiting.fetch.Goals as goal

pub returns-clause-serving : goal.returns-clause-serving
returns-clause-serving g c =
    fetched g.P.Compiled.needs (g.Q.Port.opening c.args.port.now) (g.Q.Port.opening c.fetch-answer.new.self) (g.Q.Port.pass c.args.port.now) (g.Q.Port.pass c.fetch-answer.new.self) (g.Q.Port.seen c.args.port.now) (g.Q.Port.seen c.fetch-answer.new.self)
    c.args.begun.now.request c.args.begun.now.session c.args.path.now c.fetch-answer.result c.fetch-answer.ensures.same.0 c.fetch-answer.ensures.same.1 (omega (arith, ap length c.as_bytes.ensures.bytes, c.if-as_bytes-gt-MAX_NAME.false)) c.requires c.fetch-answer.ensures.call
