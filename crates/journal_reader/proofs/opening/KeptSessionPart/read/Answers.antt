use Rattle.journal_reader.proofs.OpeningParts.{session_made}
use Rattle.journal_reader.proofs.Parts.{passed}
use Rattle.journal_reader.proofs.Views.{made_so, made_stops}
use Rattle.journal_reader.proofs.opening.KeptSessionPart.read.Goals as goal

pub returns-in_err-parts : goal.returns-in_err-parts
returns-in_err-parts g c = passed c.from_residual.result c.from_residual.ensures.1 (made_stops session_made c.in_err-parts.ensures)

pub returns : goal.returns
returns g c = made_so session_made (λ a is. (is.0.0, is.0.1, is.1)) c.in_ok-parts.ensures
