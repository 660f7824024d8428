use Rattle.journal_reader.proofs.ActParts.{ending_is, ending_made}
use Rattle.journal_reader.proofs.Parts.{passed}
use Rattle.journal_reader.proofs.Views.{made_so, made_stops}
use Rattle.journal_reader.proofs.acts.end.Goals as goal

pub returns-in_err-parts : goal.returns-in_err-parts
returns-in_err-parts g c = passed c.from_residual.result c.from_residual.ensures.1 (made_stops ending_made c.in_err-parts.ensures)

pub returns : goal.returns
returns g c = made_so ending_made ending_is c.in_ok-parts.ensures
