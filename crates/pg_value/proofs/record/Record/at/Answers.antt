use Rattle.std.proofs.Common.{arith}
use Rattle.pg_value.proofs.BlockLoops.{seen_none, seen_some}
use Rattle.pg_value.proofs.record.Record.at.Goals as goal

pub returns-in-empty : goal.returns-in-empty
returns-in-empty c = seen_none c.entries_from.result.now c.args.self.now c.args.place c.entries_from.ensures.some (omega arith)

pub returns-in-len1-up : goal.returns-in-len1-up
returns-in-len1-up c = seen_some c.entries_from.result.now c.args.self.now c.args.place c.entry-item.result c.entries_from.ensures.same (omega (arith, c.in-len1-up.len_at_least)) c.entry-item.is
