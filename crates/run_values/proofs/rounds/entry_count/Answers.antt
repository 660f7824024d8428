use Rattle.std.proofs.Common.{◌∙◌, sym}
use Rattle.run_values.proofs.RoundLemmas.{entries_counted}
use Rattle.run_values.proofs.rounds.entry_count.Goals as goal

pub returns : goal.returns
returns c = c.len.ensures.len ∙ sym (entries_counted c.args.record.now)
