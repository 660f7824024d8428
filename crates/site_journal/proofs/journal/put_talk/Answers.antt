use Rattle.sink_buffer.proofs.Writing.{writes_both}
use Rattle.site_journal.proofs.journal.put_talk.Goals as goal

pub returns-clause-writes : goal.returns-clause-writes
returns-clause-writes g c =
    writes_both (writes_both (writes_both (rw c.as_slice.ensures at c.put_bytes.ensures.writes) (rw c.as_slice-2.ensures at c.put_list.ensures.writes)) (rw c.as_slice-3.ensures at c.put_bytes-2.ensures.writes)) c.put_byte.ensures

pub returns-clause-can_be : goal.returns-clause-can_be
returns-clause-can_be g c = record {
  bytes = rw c.as_slice.ensures at c.put_bytes.ensures.can_be;
  moments = rw c.as_slice-2.ensures at c.put_list.ensures.can_be;
  answers = rw c.as_slice-3.ensures at c.put_bytes-2.ensures.can_be;
  ended = c.know_byte.ensures;
}
