use Rattle.site_journal.proofs.Parts.{attrs_parts}
use Rattle.site_journal.proofs.Written.{attrs_text}
use Rattle.sink_buffer.proofs.Writing.{writes_both, writes_same}
use Rattle.site_journal.proofs.values.put_attrs.Goals as goal

pub returns-clause-writes : goal.returns-clause-writes
returns-clause-writes g c = writes_same (attrs_text _ _ _ c.len.ensures c.as_slice.ensures.entries) (writes_both c.put_number.ensures.writes c.put_keys.ensures.writes)

pub returns-clause-can_be : goal.returns-clause-can_be
returns-clause-can_be g c = attrs_parts _ _ _ c.len.ensures c.as_slice.ensures.entries c.put_number.ensures.can_be c.as_slice.ensures.order c.put_keys.ensures.can_be
