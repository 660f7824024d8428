use Rattle.editor.specs.Message.{message}
use Rattle.preview.proofs.EditedLemmas.{count_drafts, failure_drafts}
use Rattle.preview.proofs.editing.drafted.Goals as goal

pub returns-in-Ok : goal.returns-in-Ok
returns-in-Ok c = record {
  drafts = λ seen. count_drafts (message c.args.request.now) c.args.draft.now c.change.new.draft seen c.in-Ok.count c.in-Ok.ensures.answer c.in-Ok.ensures.draft;
}

pub returns-in-Err : goal.returns-in-Err
returns-in-Err c = record {
  drafts = λ seen. failure_drafts (message c.args.request.now) c.args.draft.now c.change.new.draft seen c.in-Err.failure c.in-Err.ensures.answer c.in-Err.ensures.draft;
}
