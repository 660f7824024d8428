use Rattle.talk_words.proofs.GrownLemmas.{one_history}
use Rattle.talk_words.proofs.laws.one_history.Goals as goal

pub returns : goal.returns
returns c = one_history
