use Rattle.std.proofs.Common.{◌≡◌, ◌+◌, length, drop}
use Rattle.pg_value.specs.ReadEntries.{joined}
use Rattle.pg_value.proofs.blocks.count.Given as goal

abbrev pub invariant-loop-block : goal.invariant-loop-block
invariant-loop-block l = l.count + length (joined (drop l.block-index l.blocks)) ≡ length (joined l.blocks)
