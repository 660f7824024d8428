use Rattle.run_values.proofs.RoundLemmas.{value_copied, value_absent}
use Rattle.run_values.proofs.rounds.copy_at.Goals as goal

pub returns-in-Some : goal.returns-in-Some
returns-in-Some c = value_copied c.args.values.now c.args.place c.in-Some.value.now c.copy.result c.in-Some.ensures c.copy.ensures

pub returns-in-None : goal.returns-in-None
returns-in-None c = value_absent c.args.values.now c.args.place c.in-None.ensures
