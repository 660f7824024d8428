use Rattle.std.proofs.Common.{refl}
use Rattle.journal_reader.proofs.ApplicationLemmas.{AreBoth, ensure, ensure_arm, get_arm, of_both, remove_arm, set, set_arm, step_body, step_tag, step_text}
use Rattle.journal_reader.proofs.Parts.{passed}
use Rattle.journal_reader.proofs.Tags.{body_read, body_stops}
use Rattle.journal_reader.specs.Values.{IsValue}
use Rattle.site_journal.specs.Codes.{IsText, of_bytes}
use Rattle.site_journal.specs.Journal.{of_step, of_value}
use Rattle.site_journal.specs.Reading.{IsStep}
use Rattle.site_words.specs.declared.words.AppStep.TheVariants as step
use Rattle.journal_reader.proofs.application.AppStepPart.read.Goals as goal

pub returns-in_err-read-in-0 : goal.returns-in_err-read-in-0
returns-in_err-read-in-0 g c =
    passed c.from_residual-in_err-read-in-0.result c.from_residual-in_err-read-in-0.ensures.1
    (body_stops IsStep of_step step_tag step_body step_text IsText of_bytes step.Get 0 get_arm (cc) c.in_ok-read.ensures c.in_err-read-in-0.ensures)

pub returns-in_ok-read-in-0 : goal.returns-in_ok-read-in-0
returns-in_ok-read-in-0 g c =
    body_read IsStep of_step step_tag step_body step_text IsText of_bytes step.Get 0 get_arm (cc) c.in_ok-read-in-0.ensures.answered.is refl c.in_ok-read.ensures c.in_ok-read-in-0.ensures

pub returns-in_err-parts-in-1 : goal.returns-in_err-parts-in-1
returns-in_err-parts-in-1 g c =
    passed c.from_residual-in_err-parts-in-1.result c.from_residual-in_err-parts-in-1.ensures.1
    (body_stops IsStep of_step step_tag step_body step_text (AreBoth IsText IsValue) (of_both of_bytes of_value) set 1 set_arm (cc) c.in_ok-read.ensures c.in_err-parts-in-1.ensures)

pub returns-in_ok-parts-in-1 : goal.returns-in_ok-parts-in-1
returns-in_ok-parts-in-1 g c =
    body_read IsStep of_step step_tag step_body step_text (AreBoth IsText IsValue) (of_both of_bytes of_value) set 1 set_arm (cc) c.in_ok-parts-in-1.ensures.answered.is refl c.in_ok-read.ensures c.in_ok-parts-in-1.ensures

pub returns-in_err-read-in-2 : goal.returns-in_err-read-in-2
returns-in_err-read-in-2 g c =
    passed c.from_residual-in_err-read-in-2.result c.from_residual-in_err-read-in-2.ensures.1
    (body_stops IsStep of_step step_tag step_body step_text IsText of_bytes step.Remove 2 remove_arm (cc) c.in_ok-read.ensures c.in_err-read-in-2.ensures)

pub returns-in_ok-read-in-2 : goal.returns-in_ok-read-in-2
returns-in_ok-read-in-2 g c =
    body_read IsStep of_step step_tag step_body step_text IsText of_bytes step.Remove 2 remove_arm (cc) c.in_ok-read-in-2.ensures.answered.is refl c.in_ok-read.ensures c.in_ok-read-in-2.ensures

pub returns-in_err-parts-in-3 : goal.returns-in_err-parts-in-3
returns-in_err-parts-in-3 g c =
    passed c.from_residual-in_err-parts-in-3.result c.from_residual-in_err-parts-in-3.ensures.1
    (body_stops IsStep of_step step_tag step_body step_text (AreBoth IsText IsValue) (of_both of_bytes of_value) ensure 3 ensure_arm (cc) c.in_ok-read.ensures c.in_err-parts-in-3.ensures)

pub returns-in_ok-parts-in-3 : goal.returns-in_ok-parts-in-3
returns-in_ok-parts-in-3 g c =
    body_read IsStep of_step step_tag step_body step_text (AreBoth IsText IsValue) (of_both of_bytes of_value) ensure 3 ensure_arm (cc) c.in_ok-parts-in-3.ensures.answered.is refl c.in_ok-read.ensures c.in_ok-parts-in-3.ensures
