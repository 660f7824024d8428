use Rattle.journal_reader.proofs.ActParts.{abandoning_is, abandoning_made}
use Rattle.journal_reader.proofs.Parts.{passed}
use Rattle.journal_reader.proofs.Views.{made_so, made_stops}
use Rattle.journal_reader.proofs.acts.abandon.Goals as goal

pub returns-in_err-request : goal.returns-in_err-request
returns-in_err-request g c = passed c.from_residual.result c.from_residual.ensures.1 (made_stops abandoning_made c.in_err-request.ensures)

pub returns : goal.returns
returns g c = made_so abandoning_made abandoning_is c.in_ok-request.ensures
