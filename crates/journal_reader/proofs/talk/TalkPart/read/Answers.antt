use Rattle.std.proofs.Common.{rules}
use Rattle.journal_reader.proofs.OpeningParts.{talk_is, talk_made}
use Rattle.journal_reader.proofs.Parts.{passed}
use Rattle.journal_reader.proofs.Views.{made_read, made_stops}
use Rattle.journal_reader.proofs.talk.TalkPart.read.Goals as goal

pub returns-in_err-parts : goal.returns-in_err-parts
returns-in_err-parts g c = passed c.from_residual.result c.from_residual.ensures.1 (made_stops talk_made c.in_err-parts.ensures)

pub returns : goal.returns
returns g c = made_read talk_made (talk_is _ c.in_ok-parts.ensures.answered.is (search rules)) c.in_ok-parts.ensures
