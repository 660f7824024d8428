use Rattle.journal_reader.proofs.EntryLemmas.{history_sorted, history_stops}
use Rattle.journal_reader.proofs.Parts.{passed}
use Rattle.journal_reader.proofs.history.HistoryPart.read.Goals as goal

pub returns-in_err-entries : goal.returns-in_err-entries
returns-in_err-entries g c = passed c.from_residual.result c.from_residual.ensures.1 (history_stops c.in_err-entries.ensures)

pub returns : goal.returns
returns g c = history_sorted c.history_of.result c.in_ok-entries.ensures c.history_of.ensures
