use Rattle.page_directives.proofs.FaultLemmas.{at_bits-or, joined}
use Rattle.page_directives.proofs.faults.Faults.and.Goals as goal

pub returns-clause-both : goal.returns-clause-both
returns-clause-both c = let e = at_bits-or c.self.inside.bits c.others.inside.bits in let x = c.self.view_is in let y = c.others.view_is in cc (e, x, y)

pub returns-clause-of : goal.returns-clause-of
returns-clause-of c = λ xs ys e g. let h = at_bits-or c.self.inside.bits c.others.inside.bits in let x = c.self.view_is in let y = c.others.view_is in joined c.args.self c.args.others _ xs ys e g (cc (h, x, y))
