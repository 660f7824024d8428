use Rattle.site_journal.proofs.WordsApart.{journals_stand_apart}
use Rattle.site_journal.proofs.laws.one_reading.Goals as goal

pub returns : goal.returns
returns c = journals_stand_apart
