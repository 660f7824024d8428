use Rattle.journal_reader.proofs.Parts.{passed}
use Rattle.journal_reader.proofs.ValueLemmas.{attrs_sorted, attrs_stop}
use Rattle.journal_reader.proofs.values.AttrsPart.read.Goals as goal

pub returns-in_err-entries : goal.returns-in_err-entries
returns-in_err-entries g c = passed c.from_residual.result c.from_residual.ensures.1 (attrs_stop c.in_err-entries.ensures)

pub returns : goal.returns
returns g c = attrs_sorted c.attrs_of.result c.in_ok-entries.ensures c.attrs_of.ensures
