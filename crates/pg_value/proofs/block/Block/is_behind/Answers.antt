use Rattle.std.proofs.Common.{arith, rules}
use Rattle.pg_value.proofs.BlockLoops.{begins_by}
use Rattle.pg_value.proofs.block.Block.is_behind.Goals as goal

pub returns-in-len1-up : goal.returns-in-len1-up
returns-in-len1-up c =
    begins_by c.args.key.now c.as_slice.result.now c.args.self.now c.first-item.result c.is_lt.result (omega (arith, c.in-len1-up.len_at_least)) c.first-item.is c.as_slice.ensures.entries (search rules)
