use Rattle.run_values.proofs.NameListLemmas.{split_is}
use Rattle.run_values.proofs.name_lists.split_by_name.Goals as goal

pub returns-clause-split : goal.returns-clause-split
returns-clause-split c = split_is c.args.name.now c.args.entries.now c.split_at.result.0.now c.split_at.result.1.now c.named-count.result c.named-count.ensures.value c.split_at.ensures.front c.split_at.ensures.back
