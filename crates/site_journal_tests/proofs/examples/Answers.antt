use Rattle.std.proofs.Common.{refl}
use Rattle.site_journal_tests.proofs.examples.Goals as goal

pub returns-clause-first : goal.returns-clause-first
returns-clause-first c = refl

pub returns-clause-other : goal.returns-clause-other
returns-clause-other c = refl
