use Rattle.sink_buffer.proofs.Writing.{writes_both}
use Rattle.site_journal.proofs.opening.put_counts.Goals as goal

pub returns-clause-writes : goal.returns-clause-writes
returns-clause-writes g c =
    writes_both
    (writes_both (writes_both (writes_both (writes_both (writes_both c.put_number.ensures.writes c.put_number-2.ensures.writes) c.put_number-3.ensures.writes) c.put_number-4.ensures.writes) c.put_number-5.ensures.writes) c.put_number-6.ensures.writes)
    c.put_number-7.ensures.writes

pub returns-clause-can_be : goal.returns-clause-can_be
returns-clause-can_be g c = record {
  limit = c.put_number.ensures.can_be;
  passes = c.know_byte.ensures;
  idle = c.put_number-3.ensures.can_be;
  version = c.put_number-4.ensures.can_be;
  begins = c.put_number-5.ensures.can_be;
  freshes = c.put_number-6.ensures.can_be;
  moment = c.put_number-7.ensures.can_be;
}
