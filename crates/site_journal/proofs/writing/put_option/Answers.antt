use Rattle.std.proofs.Common.{ap, subst, sym}
use Rattle.sink_buffer.proofs.Writing.{writes_both, writes_same}
use Rattle.site_journal.specs.Codes.{IsNumber, IsOption, of_number, of_option}
use Rattle.site_journal.proofs.writing.put_option.Goals as goal

pub returns-in-Some-clause-writes : goal.returns-in-Some-clause-writes
returns-in-Some-clause-writes g c = writes_same (ap (of_option of_number) (sym c.in-Some.is)) (writes_both c.put_byte-in-Some.ensures c.put_number.ensures.writes)

pub returns-in-Some-clause-can_be : goal.returns-in-Some-clause-can_be
returns-in-Some-clause-can_be g c = subst (IsOption IsNumber) (sym c.in-Some.is) c.put_number.ensures.can_be
