use Rattle.std.proofs.Common.{◌+◌, ◌-◌, ◌*◌, length, map, take}
use Rattle.pg_value.specs.Datum.{items_of, entries_of}
use Rattle.pg_value.specs.Size.{size_of, data_size, entries_size}
use Rattle.pg_value.specs.Value.{datum_of, entry_of}
use Rattle.site_journal.specs.Journal.{of_entries, of_items}
use Rattle.site_journal.specs.Reading.{AreEntries, AreItems}
use Rattle.sink_buffer.specs.Buffer.{Writes}
use Rattle.site_journal.proofs.values.+values.Given as goal

abbrev pub decreases-put_value : goal.decreases-put_value
decreases-put_value g l = 3 * size_of (datum_of l.value.now)

abbrev pub decreases-put_items : goal.decreases-put_items
decreases-put_items g l = 3 * data_size (map datum_of l.items.now) + 1

abbrev pub decreases-put_record : goal.decreases-put_record
decreases-put_record g l = 3 * entries_size l.entries.now + 2

abbrev pub decreases-put_keys : goal.decreases-put_keys
decreases-put_keys g l = 3 * entries_size (map entry_of l.entries.now) + 1

-- the first of them are written
abbrev pub invariant-put_items-loop-item : goal.invariant-put_items-loop-item
invariant-put_items-loop-item g l = record {
  written : Writes (g.K.Sink.taken l.fn.sink) (g.K.Sink.taken l.sink) (g.K.Sink.faults l.fn.sink) (g.K.Sink.faults l.sink) l.fn.buffer l.buffer (of_items (items_of (map datum_of (take l.item-index l.items))));
  can_be : AreItems (items_of (map datum_of (take l.item-index l.items)));
}

abbrev pub invariant-put_record-loop-place : goal.invariant-put_record-loop-place
invariant-put_record-loop-place g l = record {
  written : Writes (g.K.Sink.taken l.fn.sink) (g.K.Sink.taken l.sink) (g.K.Sink.faults l.fn.sink) (g.K.Sink.faults l.sink) l.fn.buffer l.buffer (of_entries (entries_of (take l.place l.entries)));
  can_be : AreEntries (entries_of (take l.place l.entries));
}

abbrev pub decreases-put_record-loop-place : goal.decreases-put_record-loop-place
decreases-put_record-loop-place g l = length l.entries - l.place

abbrev pub invariant-put_keys-loop-entry : goal.invariant-put_keys-loop-entry
invariant-put_keys-loop-entry g l = record {
  written : Writes (g.K.Sink.taken l.fn.sink) (g.K.Sink.taken l.sink) (g.K.Sink.faults l.fn.sink) (g.K.Sink.faults l.sink) l.fn.buffer l.buffer (of_entries (entries_of (map entry_of (take l.entry-index l.entries))));
  can_be : AreEntries (entries_of (map entry_of (take l.entry-index l.entries)));
}
