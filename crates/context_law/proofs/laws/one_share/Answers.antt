use Rattle.context_law.proofs.OneShareLemmas.{same_in_two_worlds, walks_are_one}
use Rattle.context_law.proofs.laws.one_share.Goals as goal

pub returns-clause-walks : goal.returns-clause-walks
returns-clause-walks g c = walks_are_one c.requests.ensures.more

pub returns-clause-worlds : goal.returns-clause-worlds
returns-clause-worlds g c = same_in_two_worlds c.requests.ensures.more
