use Rattle.sink_buffer.proofs.Writing.{writes_both}
use Rattle.site_journal.proofs.journal.put_journal.Goals as goal

pub returns-clause-writes : goal.returns-clause-writes
returns-clause-writes g c = writes_both (writes_both (writes_both c.put.ensures c.put_opening.ensures.writes) c.put_rolled.ensures.writes) c.put_optional.ensures.writes

pub returns-clause-can_be : goal.returns-clause-can_be
returns-clause-can_be g c = record { opening = c.put_opening.ensures.can_be; entries = c.put_rolled.ensures.can_be; talk_is = c.put_optional.ensures.can_be }
