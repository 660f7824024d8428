use Rattle.std.proofs.Common.{Ok, Err}
use Rattle.preview.proofs.EditedLemmas.{edit_starved, edit_told}
use Rattle.preview.proofs.editing.edit.Goals as goal

pub returns-in-Ok-clause-served : goal.returns-in-Ok-clause-served
returns-in-Ok-clause-served g c = λ seen steps.
    edit_told c.args.incoming.now.close c.args.incoming.now.request c.args.draft.now c.drafted.new.draft seen steps (g.K.Sink.faults c.args.sink.now) (g.K.Sink.faults c.tell_edit.new.sink) (g.K.Sink.taken c.args.sink.now)
    (g.K.Sink.taken c.tell_edit.new.sink) (Ok c.in-Ok.answer) c.tell_edit.result (c.in-Ok.ensures.drafts seen) c.tell_edit.ensures.told

pub returns-in-Err-Fault-clause-served : goal.returns-in-Err-Fault-clause-served
returns-in-Err-Fault-clause-served g c = λ seen steps.
    edit_told c.args.incoming.now.close c.args.incoming.now.request c.args.draft.now c.drafted.new.draft seen steps (g.K.Sink.faults c.args.sink.now) (g.K.Sink.faults c.tell_edit-in-Err-Fault.new.sink) (g.K.Sink.taken c.args.sink.now)
    (g.K.Sink.taken c.tell_edit-in-Err-Fault.new.sink) (Err c.in-Err-Fault.fault) c.tell_edit-in-Err-Fault.result (rw c.in-Err-Fault.field-0-is at c.in-Err-Fault.ensures.drafts seen) c.tell_edit-in-Err-Fault.ensures.told

pub returns-in-Err-NoMemory-clause-served : goal.returns-in-Err-NoMemory-clause-served
returns-in-Err-NoMemory-clause-served g c = λ seen steps.
    edit_starved c.args.incoming.now.close c.args.incoming.now.request c.args.draft.now c.drafted.new.draft seen steps (g.K.Sink.faults c.args.sink.now) (g.K.Sink.taken c.args.sink.now) (rw c.in-Err-NoMemory.field-0-is at c.in-Err-NoMemory.ensures.drafts seen)
