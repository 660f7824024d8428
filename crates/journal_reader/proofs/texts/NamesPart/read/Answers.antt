use Rattle.journal_reader.proofs.Parts.{passed}
use Rattle.journal_reader.proofs.TextLemmas.{names_sorted, names_stop}
use Rattle.journal_reader.proofs.texts.NamesPart.read.Goals as goal

pub returns-in_err-paths : goal.returns-in_err-paths
returns-in_err-paths g c = passed c.from_residual.result c.from_residual.ensures.1 (names_stop c.in_err-paths.ensures)

pub returns : goal.returns
returns g c = names_sorted c.names_of.result c.in_ok-paths.ensures c.names_of.ensures
