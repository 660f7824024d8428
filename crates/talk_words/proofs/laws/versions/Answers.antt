use Rattle.talk_words.proofs.VersionLemmas.{never_older}
use Rattle.talk_words.proofs.laws.versions.Goals as goal

pub returns : goal.returns
returns c = never_older
