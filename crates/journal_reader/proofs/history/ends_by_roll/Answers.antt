use Rattle.journal_reader.proofs.EntryLemmas.{ends_where, no_end}
use Rattle.journal_reader.proofs.history.ends_by_roll.Goals as goal

pub returns-then-is_roll : goal.returns-then-is_roll
returns-then-is_roll c = ends_where c.args.entries.now c.in-Some.front.now c.in-Some.last.now c.is_roll.result c.has_roll.result c.in-Some.ensures.cases.0 c.is_roll.ensures c.has_roll.ensures c.if-is_roll.true

pub returns-else-is_roll : goal.returns-else-is_roll
returns-else-is_roll c = no_end c.args.entries.now c.in-Some.front.now c.in-Some.last.now c.is_roll.result c.in-Some.ensures.cases.0 c.is_roll.ensures c.if-is_roll.false
