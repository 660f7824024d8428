use Rattle.journal_reader.proofs.OpeningParts.{passes_sorted, passes_stop}
use Rattle.journal_reader.proofs.Parts.{passed}
use Rattle.journal_reader.proofs.opening.PassesPart.read.Goals as goal

pub returns-in_err-number : goal.returns-in_err-number
returns-in_err-number g c = passed c.from_residual.result c.from_residual.ensures.1 (passes_stop c.in_err-number.ensures)

pub returns : goal.returns
returns g c = passes_sorted c.passes_of.result c.in_ok-number.ensures c.passes_of.ensures
