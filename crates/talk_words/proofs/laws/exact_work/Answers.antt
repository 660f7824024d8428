use Rattle.talk_words.proofs.WorkLemmas.{exact_work}
use Rattle.talk_words.proofs.laws.exact_work.Goals as goal

pub returns : goal.returns
returns c = exact_work
