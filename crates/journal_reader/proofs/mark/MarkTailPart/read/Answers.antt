use Rattle.journal_reader.proofs.JournalLemmas.{mark_sorted, mark_stops}
use Rattle.journal_reader.proofs.Parts.{passed}
use Rattle.journal_reader.proofs.mark.MarkTailPart.read.Goals as goal

pub returns-in_err-bytes : goal.returns-in_err-bytes
returns-in_err-bytes g c = passed c.from_residual.result c.from_residual.ensures.1 (mark_stops c.in_err-bytes.ensures)

pub returns : goal.returns
returns g c = mark_sorted c.tail_of.result c.tail_of.ensures c.in_ok-bytes.ensures
