use Rattle.response_laws.proofs.Behind.{chains_unfold, runs_grow_on}
use Rattle.response_laws.proofs.laws.responses.Goals as goal

pub returns-clause-unfold : goal.returns-clause-unfold
returns-clause-unfold c = chains_unfold c.depth.ensures.chains c.depth.ensures.forwards c.parts.ensures.grow

pub returns-clause-grow : goal.returns-clause-grow
returns-clause-grow c = runs_grow_on c.depth.ensures.forwards c.parts.ensures.grow
