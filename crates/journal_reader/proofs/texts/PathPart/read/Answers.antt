use Rattle.journal_reader.proofs.Parts.{passed}
use Rattle.journal_reader.proofs.TextLemmas.{path_sorted, path_stops}
use Rattle.journal_reader.proofs.texts.PathPart.read.Goals as goal

pub returns-in_err-text : goal.returns-in_err-text
returns-in_err-text g c = passed c.from_residual.result c.from_residual.ensures.1 (path_stops c.in_err-text.ensures)

pub returns : goal.returns
returns g c = path_sorted c.path_of.result c.in_ok-text.ensures c.path_of.ensures
