use Rattle.talk_words.proofs.RefusalLemmas.{exact_refusals}
use Rattle.talk_words.proofs.laws.exact_refusals.Goals as goal

pub returns : goal.returns
returns c = exact_refusals
