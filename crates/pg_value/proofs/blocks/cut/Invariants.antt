use Rattle.std.proofs.Common.{◌≡◌, ◌++◌, length, map}
use Rattle.pg_value.specs.Attrs.{AreInOrder}
use Rattle.pg_value.specs.ReadEntries.{AreFilled, joined}
use Rattle.pg_value.specs.Value.{entry_of}
use Rattle.pg_value.proofs.blocks.cut.Given as goal

abbrev pub invariant-parts : goal.invariant-parts
invariant-parts l = record {
  all : joined l.blocks.items ++ map entry_of l.rest ≡ map entry_of l.entries;
  filled : AreFilled l.blocks.items;
  order : AreInOrder (map entry_of l.rest);
}

abbrev pub decreases-parts : goal.decreases-parts
decreases-parts l = length l.rest
