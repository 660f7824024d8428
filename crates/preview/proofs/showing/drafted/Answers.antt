use Rattle.std.proofs.Common.{arith}
use Rattle.preview.proofs.DraftedLemmas.{fault_drafted, files_in, limits_in}
use Rattle.preview_words.specs.Own.{picture_in}
use Rattle.preview.proofs.showing.drafted.Goals as goal

pub returns-clause-files : goal.returns-clause-files
returns-clause-files c =
    files_in c.args.draft.now c.saturating_add-stamp.result (picture_in c.args.snapped.now) c.apply.result (λ behind. let same = c.saturating_add-stamp.ensures in omega arith) (rw (c.deref.ensures, c.edits.ensures) at c.apply.ensures.files)

pub returns-clause-limits : goal.returns-clause-limits
returns-clause-limits c =
    limits_in c.args.draft.now c.saturating_add-stamp.result (picture_in c.args.snapped.now) c.apply.result (rw (c.deref.ensures, c.edits.ensures) at c.apply.ensures.files) c.apply.ensures.limits

pub returns-clause-fault : goal.returns-clause-fault
returns-clause-fault c = λ reason is.
    fault_drafted c.args.draft.now c.saturating_add-stamp.result (picture_in c.args.snapped.now) c.apply.result reason (rw (c.deref.ensures, c.edits.ensures) at c.apply.ensures.answer) is
