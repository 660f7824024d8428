use Rattle.std.proofs.Common.{ap, subst, sym}
use Rattle.sink_buffer.proofs.Writing.{writes_both, writes_same}
use Rattle.site_journal.specs.Journal.{of_answer}
use Rattle.site_journal.specs.Reading.{IsAnswer}
use Rattle.site_journal.proofs.entries.put_answer.Goals as goal

pub returns-in-Value-clause-writes : goal.returns-in-Value-clause-writes
returns-in-Value-clause-writes g c = writes_same (ap of_answer (sym c.in-Value.is)) (writes_both c.put_byte.ensures c.put_value.ensures.writes)

pub returns-in-Value-clause-can_be : goal.returns-in-Value-clause-can_be
returns-in-Value-clause-can_be g c = subst IsAnswer (sym c.in-Value.is) c.put_value.ensures.can_be

pub returns-in-Large-clause-writes : goal.returns-in-Large-clause-writes
returns-in-Large-clause-writes g c = writes_same (ap of_answer (sym c.in-Large.is)) (writes_both c.put_byte-in-Large.ensures c.put_number.ensures.writes)

pub returns-in-Large-clause-can_be : goal.returns-in-Large-clause-can_be
returns-in-Large-clause-can_be g c = subst IsAnswer (sym c.in-Large.is) c.put_number.ensures.can_be
