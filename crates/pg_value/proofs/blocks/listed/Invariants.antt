use Rattle.std.proofs.Common.{◌≡◌, ◌++◌, drop, map}
use Rattle.pg_value.specs.ReadEntries.{joined}
use Rattle.pg_value.specs.Value.{entry_of}
use Rattle.pg_value.proofs.blocks.listed.Given as goal

abbrev pub invariant-loop-block : goal.invariant-loop-block
invariant-loop-block l = map entry_of l.listed.items ++ joined (drop l.block-index l.blocks) ≡ joined l.blocks
