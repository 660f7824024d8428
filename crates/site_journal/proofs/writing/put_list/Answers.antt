use Rattle.sink_buffer.proofs.Writing.{writes_both}
use Rattle.site_journal.proofs.writing.put_list.Goals as goal

pub returns-clause-writes : goal.returns-clause-writes
returns-clause-writes g c = writes_both c.put_number.ensures.writes c.put_items.ensures.writes

pub returns-clause-can_be : goal.returns-clause-can_be
returns-clause-can_be g c = (c.put_number.ensures.can_be, c.put_items.ensures.can_be)
