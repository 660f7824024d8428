use Rattle.std.proofs.Common.{◌≤◌, ◌-◌, length, Ok}
use Rattle.std.specs.Prelude.{flat_map}
use Rattle.site_journal.specs.Journal.{of_edit}
use Rattle.site_journal.specs.Reading.{IsEdit}
use Rattle.journal_reader.specs.Reads.{AreSo, Reads}
use Rattle.journal_reader.proofs.edits.some_edits.Given as goal

-- these edits were read, and there are no more than are wanted
abbrev pub invariant-fill : goal.invariant-fill
invariant-fill g l = record {
  read : Reads (AreSo (length l.edits) IsEdit) (flat_map of_edit) (g.S.Source.left l.fn.source) (g.S.Source.left l.source) l.fn.room l.room (g.S.Source.faults l.fn.source) (g.S.Source.faults l.source) (Ok l.edits);
  within : length l.edits ≤ l.count;
}

abbrev pub decreases-fill : goal.decreases-fill
decreases-fill g l = l.count - length l.edits
