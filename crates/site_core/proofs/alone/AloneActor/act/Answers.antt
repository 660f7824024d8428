use Rattle.site_core.proofs.CallLemmas.{acts_alone}
use Rattle.site_core.proofs.SoloLemmas.{still_rest}
use Rattle.site_core.proofs.alone.AloneActor.act.Goals as goal

pub returns-clause-answer : goal.returns-clause-answer
returns-clause-answer g c = acts_alone g.P.Compiled.needs g.P.Compiled.made c.args.self.now.site c.apply-answer.new.self 0 c.args.act.op c.apply-answer.result c.apply-answer.ensures.applies c.law.ensures.legal c.law-2.ensures.legal

pub invariant_of-self : goal.invariant_of-self
invariant_of-self g c = record { alone = still_rest g.P.Compiled.needs g.P.Compiled.made c.args.self.now.site c.apply-answer.new.self c.args.act.op c.apply-answer.result c.apply-answer.ensures.applies c.args.self.now.alone }
