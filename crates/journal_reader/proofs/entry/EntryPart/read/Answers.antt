use Rattle.std.proofs.Common.{arith}
use Rattle.journal_reader.proofs.EntryLemmas.{entry_parts_stop, entry_read, entry_stops}
use Rattle.journal_reader.proofs.Parts.{passed}
use Rattle.journal_reader.proofs.entry.EntryPart.read.Goals as goal

pub returns-in_err-head : goal.returns-in_err-head
returns-in_err-head g c = passed c.from_residual.result c.from_residual.ensures.1 (entry_stops c.in_err-head.ensures)

pub returns-in_err-act : goal.returns-in_err-act
returns-in_err-act g c = passed c.from_residual-in_err-act.result c.from_residual-in_err-act.ensures.1 (entry_parts_stop c.in_ok-head.ensures c.in_err-act.ensures)

pub returns : goal.returns
returns g c = entry_read (omega arith) c.in_ok-head.ensures c.in_ok-act.ensures
