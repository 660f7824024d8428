use Rattle.std.proofs.Common.{arith}
use Rattle.site_shared_tests.proofs.VisitLemmas.{begun}
use Rattle.site_shared_tests.proofs.visiting.begin.Goals as goal

pub returns-in-Did-clause-begun : goal.returns-in-Did-clause-begun
returns-in-Did-clause-begun g c =
    begun g.P.Compiled.needs (g.Q.Port.opening c.args.port.now) (g.Q.Port.opening c.begin.new.self) (g.Q.Port.pass c.args.port.now) (g.Q.Port.pass c.begin.new.self) (g.Q.Port.seen c.args.port.now) (g.Q.Port.seen c.begin.new.self)
    c.args.cookie.now 0 c.in-Did.begun c.in-Did.ensures.same.0 c.in-Did.ensures.same.1 c.requires (omega (arith, c.len.ensures, c.if-len-gt-MAX_COOKIE.false)) c.in-Did.ensures.call
