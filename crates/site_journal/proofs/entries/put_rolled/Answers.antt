use Rattle.std.proofs.Common.{◌+◌, subst}
use Rattle.site_journal.proofs.Parts.{rolled_parts}
use Rattle.site_journal.proofs.Written.{rolled_text}
use Rattle.site_journal.specs.Codes.{IsNumber}
use Rattle.sink_buffer.proofs.Writing.{writes_both, writes_same}
use Rattle.site_journal.proofs.entries.put_rolled.Goals as goal

pub returns-clause-writes : goal.returns-clause-writes
returns-clause-writes g c = writes_same (rolled_text c.args.history.now.items) (writes_both (writes_both (rw c.len.ensures at c.put_number.ensures.writes) c.put_entries.ensures.writes) c.put.ensures)

pub returns-clause-can_be : goal.returns-clause-can_be
returns-clause-can_be g c = rolled_parts c.args.history.now.items (subst (λ n. IsNumber (n + 1)) c.len.ensures c.put_number.ensures.can_be) c.put_entries.ensures.can_be
