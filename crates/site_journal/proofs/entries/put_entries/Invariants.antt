use Rattle.std.proofs.Common.{length, take}
use Rattle.std.specs.Prelude.{flat_map}
use Rattle.site_journal.specs.Journal.{of_entry}
use Rattle.site_journal.specs.Reading.{HasParts}
use Rattle.site_words.specs.Trees.{Each}
use Rattle.sink_buffer.specs.Buffer.{Writes}
use Rattle.site_journal.proofs.entries.put_entries.Given as goal

-- the first of them are written
abbrev pub invariant-loop-entry : goal.invariant-loop-entry
invariant-loop-entry g l = record {
  written : Writes (g.K.Sink.taken l.fn.sink) (g.K.Sink.taken l.sink) (g.K.Sink.faults l.fn.sink) (g.K.Sink.faults l.sink) l.fn.buffer l.buffer (flat_map of_entry (take (length l.yielded) l.history.items));
  can_be : Each HasParts (take (length l.yielded) l.history.items);
}
