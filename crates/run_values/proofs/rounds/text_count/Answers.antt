use Rattle.std.proofs.Common.{◌∙◌, sym}
use Rattle.run_values.proofs.RoundLemmas.{texts_counted}
use Rattle.run_values.proofs.rounds.text_count.Goals as goal

pub returns : goal.returns
returns c = c.len.ensures ∙ sym (texts_counted c.args.texts.now)
