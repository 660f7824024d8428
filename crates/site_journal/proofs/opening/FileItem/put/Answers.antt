use Rattle.sink_buffer.proofs.Writing.{writes_both}
use Rattle.site_journal.proofs.opening.FileItem.put.Goals as goal

pub returns-clause-writes : goal.returns-clause-writes
returns-clause-writes g c = writes_both (writes_both (rw c.as_str.ensures.text at c.put_text.ensures.writes) c.put_number.ensures.writes) (rw c.as_str-2.ensures at c.put_text-2.ensures.writes)

pub returns-clause-can_be : goal.returns-clause-can_be
returns-clause-can_be g c = ((rw c.as_str.ensures.text at c.put_text.ensures.can_be, c.as_str.ensures.normal), c.put_number.ensures.can_be, rw c.as_str-2.ensures at c.put_text-2.ensures.can_be)
