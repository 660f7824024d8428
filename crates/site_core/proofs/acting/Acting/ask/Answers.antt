use Rattle.site_core.proofs.CallLemmas.{calls_of}
use Rattle.site_core.proofs.acting.Acting.ask.Goals as goal

pub returns-clause-call : goal.returns-clause-call
returns-clause-call g c = calls_of g.P.Compiled.needs g.P.Compiled.made (g.A.Actor.opening c.args.self.now.actor) (g.A.Actor.pass c.args.self.now.actor) (g.A.Actor.seen c.args.self.now.actor) (g.A.Actor.seen c.act.new.self) c.args.op c.act.result c.act.ensures.answer
