use Rattle.talk_words.proofs.NotedLemmas.{told_again}
use Rattle.talk_words.proofs.laws.told_again.Goals as goal

pub returns : goal.returns
returns c = told_again
