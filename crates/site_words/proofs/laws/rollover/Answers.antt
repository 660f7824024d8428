use Rattle.site_words.proofs.Legal.{rollover}
use Rattle.site_words.proofs.Sound.{next_sound}
use Rattle.site_words.proofs.laws.rollover.Goals as goal

pub returns-clause-one : goal.returns-clause-one
returns-clause-one c = rollover

pub returns-clause-sound : goal.returns-clause-sound
returns-clause-sound c = next_sound
