use Rattle.run_values.proofs.RoundLemmas.{entry_copied, entry_absent}
use Rattle.run_values.proofs.rounds.entry_at.Goals as goal
use Rattle.pg_value.specs.Value.{entry_of}

pub returns-in-Some : goal.returns-in-Some
returns-in-Some c =
    entry_copied c.args.record.now c.args.place (entry_of c.in-Some.entry.now) c.entry_value.result c.in-Some.ensures c.entry_value.ensures

pub returns-in-None : goal.returns-in-None
returns-in-None c = entry_absent c.args.record.now c.args.place c.in-None.ensures
