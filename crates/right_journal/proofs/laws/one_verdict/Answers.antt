use Rattle.right_journal.proofs.Verdicts.{verdicts_are_one}
use Rattle.right_journal.proofs.laws.one_verdict.Goals as goal

pub returns : goal.returns
returns c = verdicts_are_one c.one_reading.ensures
