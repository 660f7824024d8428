use Rattle.std.proofs.Common.{refl}
use Rattle.journal_reader.proofs.ApplicationLemmas.{answer_body, answer_tag, answer_text, large_arm, value_arm}
use Rattle.journal_reader.proofs.Parts.{passed}
use Rattle.journal_reader.proofs.Tags.{body_read, body_stops}
use Rattle.journal_reader.specs.Values.{IsValue}
use Rattle.site_journal.specs.Codes.{IsNumber, of_number}
use Rattle.site_journal.specs.Journal.{of_answer, of_value}
use Rattle.site_journal.specs.Reading.{IsAnswer}
use Rattle.site_words.specs.declared.words.AppReply.TheVariants as answer
use Rattle.journal_reader.proofs.application.AppReplyPart.read.Goals as goal

pub returns-in_err-read-in-0 : goal.returns-in_err-read-in-0
returns-in_err-read-in-0 g c =
    passed c.from_residual-in_err-read-in-0.result c.from_residual-in_err-read-in-0.ensures.1
    (body_stops IsAnswer of_answer answer_tag answer_body answer_text IsValue of_value answer.Value 0 value_arm (cc) c.in_ok-read.ensures c.in_err-read-in-0.ensures)

pub returns-in_ok-read-in-0 : goal.returns-in_ok-read-in-0
returns-in_ok-read-in-0 g c =
    body_read IsAnswer of_answer answer_tag answer_body answer_text IsValue of_value answer.Value 0 value_arm (cc) c.in_ok-read-in-0.ensures.answered.is refl c.in_ok-read.ensures c.in_ok-read-in-0.ensures

pub returns-in_err-weight-in-3 : goal.returns-in_err-weight-in-3
returns-in_err-weight-in-3 g c =
    passed c.from_residual-in_err-weight-in-3.result c.from_residual-in_err-weight-in-3.ensures.1
    (body_stops IsAnswer of_answer answer_tag answer_body answer_text IsNumber of_number answer.Large 3 large_arm (cc) c.in_ok-read.ensures c.in_err-weight-in-3.ensures)

pub returns-in_ok-weight-in-3 : goal.returns-in_ok-weight-in-3
returns-in_ok-weight-in-3 g c =
    body_read IsAnswer of_answer answer_tag answer_body answer_text IsNumber of_number answer.Large 3 large_arm (cc) c.in_ok-weight-in-3.ensures.answered.is refl c.in_ok-read.ensures c.in_ok-weight-in-3.ensures
