use Rattle.preview_words.proofs.OwnLemmas.{runnable}
use Rattle.preview_words.proofs.laws.own_sites.Goals as goal

pub returns : goal.returns
returns c = runnable
