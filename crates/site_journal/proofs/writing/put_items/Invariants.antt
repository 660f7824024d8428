use Rattle.std.proofs.Common.{take}
use Rattle.std.specs.Prelude.{flat_map}
use Rattle.site_words.specs.Trees.{Each}
use Rattle.sink_buffer.specs.Buffer.{Writes}
use Rattle.site_journal.proofs.writing.put_items.Given as goal

-- the first of them are written
abbrev pub invariant-loop-item : goal.invariant-loop-item
invariant-loop-item g l = record {
  written : Writes (g.K.Sink.taken l.fn.sink) (g.K.Sink.taken l.sink) (g.K.Sink.faults l.fn.sink) (g.K.Sink.faults l.sink) l.fn.buffer l.buffer (flat_map g.T.Item.text (take l.item-index l.items));
  can_be : Each g.T.Item.can_be (take l.item-index l.items);
}
