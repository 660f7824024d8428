use Rattle.context_words.proofs.GrownLemmas.{own_histories}
use Rattle.context_words.proofs.laws.histories.Goals as goal

pub returns : goal.returns
returns g c = own_histories
