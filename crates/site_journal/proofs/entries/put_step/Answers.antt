use Rattle.std.proofs.Common.{ap, subst, sym}
use Rattle.sink_buffer.proofs.Writing.{writes_both, writes_same}
use Rattle.site_journal.specs.Journal.{of_step}
use Rattle.site_journal.specs.Reading.{IsStep}
use Rattle.site_journal.proofs.entries.put_step.Goals as goal

pub returns-in-Get-clause-writes : goal.returns-in-Get-clause-writes
returns-in-Get-clause-writes g c = writes_same (ap of_step (sym c.in-Get.is)) (writes_both c.put_byte.ensures (rw c.as_str.ensures at c.put_text.ensures.writes))

pub returns-in-Get-clause-can_be : goal.returns-in-Get-clause-can_be
returns-in-Get-clause-can_be g c = subst IsStep (sym c.in-Get.is) (rw c.as_str.ensures at c.put_text.ensures.can_be)

pub returns-in-Set-clause-writes : goal.returns-in-Set-clause-writes
returns-in-Set-clause-writes g c = writes_same (ap of_step (sym c.in-Set.is)) (writes_both (writes_both c.put_byte-in-Set.ensures (rw c.as_str-in-Set.ensures at c.put_text-in-Set.ensures.writes)) c.put_value.ensures.writes)

pub returns-in-Set-clause-can_be : goal.returns-in-Set-clause-can_be
returns-in-Set-clause-can_be g c = subst IsStep (sym c.in-Set.is) (rw c.as_str-in-Set.ensures at c.put_text-in-Set.ensures.can_be, c.put_value.ensures.can_be)

pub returns-in-Remove-clause-writes : goal.returns-in-Remove-clause-writes
returns-in-Remove-clause-writes g c = writes_same (ap of_step (sym c.in-Remove.is)) (writes_both c.put_byte-in-Remove.ensures (rw c.as_str-in-Remove.ensures at c.put_text-in-Remove.ensures.writes))

pub returns-in-Remove-clause-can_be : goal.returns-in-Remove-clause-can_be
returns-in-Remove-clause-can_be g c = subst IsStep (sym c.in-Remove.is) (rw c.as_str-in-Remove.ensures at c.put_text-in-Remove.ensures.can_be)

pub returns-in-Ensure-clause-writes : goal.returns-in-Ensure-clause-writes
returns-in-Ensure-clause-writes g c = writes_same (ap of_step (sym c.in-Ensure.is)) (writes_both (writes_both c.put_byte-in-Ensure.ensures (rw c.as_str-in-Ensure.ensures at c.put_text-in-Ensure.ensures.writes)) c.put_value-in-Ensure.ensures.writes)

pub returns-in-Ensure-clause-can_be : goal.returns-in-Ensure-clause-can_be
returns-in-Ensure-clause-can_be g c = subst IsStep (sym c.in-Ensure.is) (rw c.as_str-in-Ensure.ensures at c.put_text-in-Ensure.ensures.can_be, c.put_value-in-Ensure.ensures.can_be)
