use Rattle.std.proofs.Common.{refl}
use Rattle.unit_meaning.proofs.laws.worked.Goals as goal

pub returns-clause-url : goal.returns-clause-url
returns-clause-url c = refl

pub returns-clause-choice : goal.returns-clause-choice
returns-clause-choice c = refl

pub returns-clause-call : goal.returns-clause-call
returns-clause-call c = refl

pub returns-clause-sets : goal.returns-clause-sets
returns-clause-sets c = refl
