use Rattle.pg_value.proofs.BlockLoops.{seen_some}
use Rattle.pg_value.proofs.record.Record.entry.Goals as goal

pub returns : goal.returns
returns c = seen_some c.entries_from.result.now c.args.self.now c.args.place _ c.entries_from.ensures.same (c.entries_from.ensures.some c.requires) c.index-entries_from-0.is
