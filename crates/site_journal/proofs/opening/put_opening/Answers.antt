use Rattle.sink_buffer.proofs.Writing.{writes_both}
use Rattle.site_journal.proofs.opening.put_opening.Goals as goal

pub returns-clause-writes : goal.returns-clause-writes
returns-clause-writes g c =
    writes_both (writes_both (writes_both (writes_both c.put.ensures c.put_counts.ensures.writes) c.put_attrs.ensures.writes) (rw c.files.ensures.files at c.put_list.ensures.writes)) (rw c.as_slice.ensures at c.put_list-2.ensures.writes)

pub returns-clause-can_be : goal.returns-clause-can_be
returns-clause-can_be g c = record {
  seed = cc;
  counts = c.put_counts.ensures.can_be;
  app = c.put_attrs.ensures.can_be;
  files = rw c.files.ensures.files at c.put_list.ensures.can_be;
  order = c.files.ensures.order;
  sessions = rw c.as_slice.ensures at c.put_list-2.ensures.can_be;
}
