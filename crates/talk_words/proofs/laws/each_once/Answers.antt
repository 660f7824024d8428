use Rattle.talk_words.proofs.UseLemmas.{each_once}
use Rattle.talk_words.proofs.laws.each_once.Goals as goal

pub returns : goal.returns
returns c = each_once
