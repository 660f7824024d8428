use Rattle.site_shared_tests.proofs.VisitLemmas.{stepped}
use Rattle.site_shared_tests.proofs.visiting.set.Goals as goal

pub returns-clause-serving : goal.returns-clause-serving
returns-clause-serving g c =
    stepped g.P.Compiled.needs (g.Q.Port.opening c.args.port.now) (g.Q.Port.opening c.app-answer.new.self) (g.Q.Port.pass c.args.port.now) (g.Q.Port.pass c.app-answer.new.self) (g.Q.Port.seen c.args.port.now) (g.Q.Port.seen c.app-answer.new.self)
    c.args.begun.now.request c.args.begun.now.session _ _ c.app-answer.result c.app-answer.ensures.same.0 c.app-answer.ensures.same.1 c.requires c.app-answer.ensures.call
