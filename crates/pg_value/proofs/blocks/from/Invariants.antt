use Rattle.std.proofs.Common.{◌≡◌, ◌<◌, drop, length}
use Rattle.pg_value.specs.ReadEntries.{joined}
use Rattle.pg_value.proofs.blocks.from.Given as goal

abbrev pub invariant-loop-block : goal.invariant-loop-block
invariant-loop-block l = record {
  rest : drop l.left (joined (drop l.block-index l.blocks)) ≡ drop l.place (joined l.blocks);
  some : l.place < length (joined l.blocks) → l.left < length (joined (drop l.block-index l.blocks));
}
