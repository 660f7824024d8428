use Rattle.sink_buffer.proofs.Writing.{writes_both}
use Rattle.site_journal.proofs.opening.KeptSessionItem.put.Goals as goal

pub returns-clause-writes : goal.returns-clause-writes
returns-clause-writes g c = writes_both (writes_both c.put_number.ensures.writes c.put_number-2.ensures.writes) c.put_attrs.ensures.writes

pub returns-clause-can_be : goal.returns-clause-can_be
returns-clause-can_be g c = (c.put_number.ensures.can_be, c.put_number-2.ensures.can_be, c.put_attrs.ensures.can_be)
