use Rattle.journal_reader.proofs.OpeningParts.{tree_sorted, tree_stops}
use Rattle.journal_reader.proofs.Parts.{passed}
use Rattle.journal_reader.proofs.tree.TreePart.read.Goals as goal

pub returns-in_err-files : goal.returns-in_err-files
returns-in_err-files g c = passed c.from_residual.result c.from_residual.ensures.1 (tree_stops c.in_err-files.ensures)

pub returns : goal.returns
returns g c = tree_sorted c.tree_of.result c.in_ok-files.ensures c.tree_of.ensures
