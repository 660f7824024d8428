use Rattle.page_meaning.proofs.Chains.{chains_end}
use Rattle.page_meaning.proofs.EveryLaw.{hundred_levels, leave_fewer}
use Rattle.page_meaning.proofs.laws.depth.Goals as goal

pub returns-clause-levels : goal.returns-clause-levels
returns-clause-levels c = hundred_levels

pub returns-clause-forwards : goal.returns-clause-forwards
returns-clause-forwards c = leave_fewer

pub returns-clause-chains : goal.returns-clause-chains
returns-clause-chains c = chains_end
