use Rattle.std.proofs.Common.{Some, refl}
use Rattle.journal_reader.proofs.Compounds.{option_arm, option_body, option_tag, option_text}
use Rattle.journal_reader.proofs.Parts.{passed}
use Rattle.journal_reader.proofs.Tags.{body_read, body_stops}
use Rattle.site_journal.specs.Codes.{IsOption, of_option}
use Rattle.journal_reader.proofs.lists.OptionPart.read.Goals as goal

pub returns-in_err-read-in-1 : goal.returns-in_err-read-in-1
returns-in_err-read-in-1 g c =
    passed c.from_residual-in_err-read-in-1.result c.from_residual-in_err-read-in-1.ensures.1 (body_stops (IsOption g.T.Part.is) (of_option g.T.Part.text) (option_tag g.T.Part.text) (option_body g.T.Part.text) (option_text g.T.Part.text) g.T.Part.is g.T.Part.text Some 1 (option_arm g.T.Part.text g.T.Part.is) (cc)
    c.in_ok-read.ensures c.in_err-read-in-1.ensures)

pub returns-in_ok-read-in-1 : goal.returns-in_ok-read-in-1
returns-in_ok-read-in-1 g c =
    body_read (IsOption g.T.Part.is) (of_option g.T.Part.text) (option_tag g.T.Part.text) (option_body g.T.Part.text) (option_text g.T.Part.text) g.T.Part.is g.T.Part.text Some 1 (option_arm g.T.Part.text g.T.Part.is) (cc)
    c.in_ok-read-in-1.ensures.answered.is refl c.in_ok-read.ensures c.in_ok-read-in-1.ensures
