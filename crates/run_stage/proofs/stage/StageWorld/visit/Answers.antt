use Rattle.std.proofs.Common.{arith}
use Rattle.std.proofs.lemmas.Bool.Decides.{nat_tests}
use Rattle.page_meaning.specs.Work.{visit_limit}
use Rattle.run_stage.proofs.stage.StageWorld.visit.Goals as goal

pub returns-then-self-ge-VISIT_LIMIT-clause-counts : goal.returns-then-self-ge-VISIT_LIMIT-clause-counts
unfolding visit_limit
returns-then-self-ge-VISIT_LIMIT-clause-counts g c = grind (arith, nat_tests, c.if-self-ge-VISIT_LIMIT.true)

pub returns-clause-counts : goal.returns-clause-counts
unfolding visit_limit
returns-clause-counts g c = grind (arith, nat_tests, c.if-self-ge-VISIT_LIMIT.false)
