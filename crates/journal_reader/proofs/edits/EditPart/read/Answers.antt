use Rattle.std.proofs.Common.{refl}
use Rattle.journal_reader.proofs.ApplicationLemmas.{AreBoth, delete_arm, edit_body, edit_tag, edit_text, of_both, put, put_arm}
use Rattle.journal_reader.proofs.Parts.{passed}
use Rattle.journal_reader.proofs.Tags.{body_read, body_stops}
use Rattle.site_journal.specs.Codes.{IsText, of_bytes}
use Rattle.site_journal.specs.Journal.{of_edit}
use Rattle.site_journal.specs.Reading.{IsEdit, IsPath}
use Rattle.source_tree.specs.declared.edit.Edit.TheVariants.{Delete}
use Rattle.journal_reader.proofs.edits.EditPart.read.Goals as goal

pub returns-in_err-parts-in-0 : goal.returns-in_err-parts-in-0
returns-in_err-parts-in-0 g c =
    passed c.from_residual-in_err-parts-in-0.result c.from_residual-in_err-parts-in-0.ensures.1
    (body_stops IsEdit of_edit edit_tag edit_body edit_text (AreBoth IsPath IsText) (of_both of_bytes of_bytes) put 0 put_arm (cc) c.in_ok-read.ensures c.in_err-parts-in-0.ensures)

pub returns-in_ok-parts-in-0 : goal.returns-in_ok-parts-in-0
returns-in_ok-parts-in-0 g c =
    body_read IsEdit of_edit edit_tag edit_body edit_text (AreBoth IsPath IsText) (of_both of_bytes of_bytes) put 0 put_arm (cc) c.in_ok-parts-in-0.ensures.answered.is refl c.in_ok-read.ensures c.in_ok-parts-in-0.ensures

pub returns-in_err-read-in-1 : goal.returns-in_err-read-in-1
returns-in_err-read-in-1 g c =
    passed c.from_residual-in_err-read-in-1.result c.from_residual-in_err-read-in-1.ensures.1
    (body_stops IsEdit of_edit edit_tag edit_body edit_text IsPath of_bytes Delete 1 delete_arm (cc) c.in_ok-read.ensures c.in_err-read-in-1.ensures)

pub returns-in_ok-read-in-1 : goal.returns-in_ok-read-in-1
returns-in_ok-read-in-1 g c =
    body_read IsEdit of_edit edit_tag edit_body edit_text IsPath of_bytes Delete 1 delete_arm (cc) c.in_ok-read-in-1.ensures.answered.is refl c.in_ok-read.ensures c.in_ok-read-in-1.ensures
