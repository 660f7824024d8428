use Rattle.journal_reader.proofs.Compounds.{list_read}
use Rattle.journal_reader.proofs.lists.ListedPart.read.Goals as goal

pub returns : goal.returns
returns g c = list_read g.T.Part.is g.T.Part.text c.items.result c.in_ok-count.ensures c.items.ensures
