use Rattle.std.proofs.Common.{◌≤◌, ◌-◌, length, Ok}
use Rattle.std.specs.Prelude.{flat_map}
use Rattle.journal_reader.specs.Reads.{AreSo, Reads}
use Rattle.journal_reader.proofs.lists.items.Given as goal

-- these items were read, and there are no more than are wanted
abbrev pub invariant-fill : goal.invariant-fill
invariant-fill g l = record {
  read : Reads (AreSo (length l.items) g.T.Part.is) (flat_map g.T.Part.text) (g.S.Source.left l.fn.source) (g.S.Source.left l.source) l.fn.room l.room (g.S.Source.faults l.fn.source) (g.S.Source.faults l.source) (Ok l.items);
  within : length l.items ≤ l.count;
}

abbrev pub decreases-fill : goal.decreases-fill
decreases-fill g l = l.count - length l.items
