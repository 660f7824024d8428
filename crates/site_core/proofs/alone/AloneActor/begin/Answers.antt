use Rattle.std.proofs.Common.{subst, sym}
use Rattle.site_words.specs.declared.words.Op.TheVariants as op
use Rattle.site_words.specs.Law.{May, own}
use Rattle.site_core.specs.Answered.{Answered}
use Rattle.site_core.proofs.CallLemmas.{acts_alone}
use Rattle.site_core.proofs.SoloLemmas.{only_full, still_rest}
use Rattle.site_core.proofs.alone.AloneActor.begin.Goals as goal

pub returns-clause-answer : goal.returns-clause-answer
returns-clause-answer g c =
    subst (λ k. Answered g.P.Compiled.needs g.P.Compiled.made c.args.self.now.site.opening 0 c.args.self.now.site.history c.apply-answer.new.self.history (op.Begin k c.args.moment) c.apply-answer.result) c.in-Ok.ensures
    (acts_alone g.P.Compiled.needs g.P.Compiled.made c.args.self.now.site c.apply-answer.new.self 0 (op.Begin c.in-Ok.cookie c.args.moment) c.apply-answer.result c.apply-answer.ensures.applies c.law.ensures.legal c.law-2.ensures.legal)

pub returns-clause-full : goal.returns-clause-full
returns-clause-full g c =
    only_full g.P.Compiled.needs g.P.Compiled.made c.args.self.now.site c.apply-answer.new.self c.in-Ok.cookie c.args.moment c.apply-answer.result c.args.self.now.alone
    (subst (λ k. May c.args.self.now.site.opening c.args.self.now.site.history 0 (own 0 c.args.self.now.site.history) (op.Begin k c.args.moment)) (sym c.in-Ok.ensures) c.requires.may) c.apply-answer.ensures.applies

pub invariant_of-self : goal.invariant_of-self
invariant_of-self g c = record { alone = still_rest g.P.Compiled.needs g.P.Compiled.made c.args.self.now.site c.apply-answer.new.self (op.Begin c.in-Ok.cookie c.args.moment) c.apply-answer.result c.apply-answer.ensures.applies c.args.self.now.alone }
