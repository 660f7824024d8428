use Rattle.context_desk.proofs.ShareLemmas.{shared}
use Rattle.context_words.proofs.AloneLemmas.{own_walks, said_alone}
use Rattle.context_words.specs.Said.{IsSaidIn}
use Rattle.context_words.specs.Shared.{Takes}
use Rattle.context_words.proofs.laws.shares.Goals as goal

pub returns-clause-shares : goal.returns-clause-shares
returns-clause-shares g c = shared Takes IsSaidIn (λ place. said_alone place.0)

pub returns-clause-walks : goal.returns-clause-walks
returns-clause-walks g c = own_walks
