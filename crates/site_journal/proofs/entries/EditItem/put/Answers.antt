use Rattle.std.proofs.Common.{ap, subst, sym}
use Rattle.sink_buffer.proofs.Writing.{writes_both, writes_same}
use Rattle.site_journal.specs.Journal.{of_edit}
use Rattle.site_journal.specs.Reading.{IsEdit}
use Rattle.site_journal.proofs.entries.EditItem.put.Goals as goal

pub returns-in-Put-clause-writes : goal.returns-in-Put-clause-writes
returns-in-Put-clause-writes g c =
    writes_same (ap of_edit (sym c.in-Put.is)) (writes_both (writes_both c.put_byte.ensures (rw c.as_str.ensures.text at c.put_text.ensures.writes)) (rw c.as_str-in-Put.ensures at c.put_text-in-Put.ensures.writes))

pub returns-in-Put-clause-can_be : goal.returns-in-Put-clause-can_be
returns-in-Put-clause-can_be g c =
    subst IsEdit (sym c.in-Put.is) ((rw c.as_str.ensures.text at c.put_text.ensures.can_be, c.as_str.ensures.normal), rw c.as_str-in-Put.ensures at c.put_text-in-Put.ensures.can_be)

pub returns-in-Delete-clause-writes : goal.returns-in-Delete-clause-writes
returns-in-Delete-clause-writes g c = writes_same (ap of_edit (sym c.in-Delete.is)) (writes_both c.put_byte-in-Delete.ensures (rw c.as_str-in-Delete.ensures.text at c.put_text-in-Delete.ensures.writes))

pub returns-in-Delete-clause-can_be : goal.returns-in-Delete-clause-can_be
returns-in-Delete-clause-can_be g c = subst IsEdit (sym c.in-Delete.is) (rw c.as_str-in-Delete.ensures.text at c.put_text-in-Delete.ensures.can_be, c.as_str-in-Delete.ensures.normal)
