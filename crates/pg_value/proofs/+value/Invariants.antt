use Rattle.std.proofs.Common.{◌≤◌}
use Rattle.pg_value.specs.declared.block.Block.TheDeep.{size-Value}
use Rattle.pg_value.proofs.+value.Given as goal

-- what is left to drop is no larger than the whole
abbrev pub invariant-value::Value::drop-loop-self : goal.invariant-value::Value::drop-loop-self
invariant-value::Value::drop-loop-self l = size-Value l.self ≤ size-Value l.fn.self

abbrev pub decreases-value::Value::drop-loop-self : goal.decreases-value::Value::drop-loop-self
decreases-value::Value::drop-loop-self l = size-Value l.self
