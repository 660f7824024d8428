use Rattle.journal_reader.proofs.Parts.{passed}
use Rattle.journal_reader.proofs.TextLemmas.{text_sorted, text_stops}
use Rattle.journal_reader.proofs.texts.TextPart.read.Goals as goal

pub returns-in_err-bytes : goal.returns-in_err-bytes
returns-in_err-bytes g c = passed c.from_residual.result c.from_residual.ensures.1 (text_stops c.in_err-bytes.ensures)

pub returns : goal.returns
returns g c = text_sorted c.text_of.result c.in_ok-bytes.ensures c.text_of.ensures
