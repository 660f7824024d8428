use Rattle.page_meaning.proofs.EveryLaw.{grow, go_on}
use Rattle.page_meaning.proofs.laws.parts.Goals as goal

pub returns-clause-grow : goal.returns-clause-grow
returns-clause-grow c = grow

pub returns-clause-more : goal.returns-clause-more
returns-clause-more c = go_on
