use Rattle.journal_reader.proofs.Compounds.{list_read}
use Rattle.site_journal.specs.Journal.{of_edit}
use Rattle.site_journal.specs.Reading.{IsEdit}
use Rattle.journal_reader.proofs.edits.EditsPart.read.Goals as goal

pub returns : goal.returns
returns g c = list_read IsEdit of_edit c.some_edits.result c.in_ok-count.ensures c.some_edits.ensures
