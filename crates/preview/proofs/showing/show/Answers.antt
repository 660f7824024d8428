use Rattle.std.proofs.Common.{ap, Err, inl, refl, ◌∙◌}
use Rattle.compiled_pages.specs.Pages.{needs_at}
use Rattle.preview.proofs.ShownLemmas.{fault_served, runnable_tree, starved_silently, tree_served}
use Rattle.preview_words.specs.Own.{picture_in}
use Rattle.preview_words.specs.Shown.{Hides, Shows}
use Rattle.conversation.specs.Exchange.{Exchange}
use Rattle.preview.proofs.showing.show.Goals as goal

pub show_tree-requires : goal.show_tree-requires
show_tree-requires g c = record {
  taken = c.requires.taken;
  sound = λ behind. runnable_tree c.args.draft.now (picture_in c.args.snapped) c.in-Ok.tree (c.in-Ok.ensures.files behind) (c.requires.runnable behind c.in-Ok.ensures.limits);
}

pub returns-in-Ok-clause-served : goal.returns-in-Ok-clause-served
returns-in-Ok-clause-served g c =
    tree_served needs_at c.in-Ok.tree (picture_in c.args.snapped) c.args.incoming.now.close c.args.incoming.now.request c.args.steps.now c.show_tree.new.steps (g.K.Sink.faults c.args.sink.now) (g.K.Sink.faults c.show_tree.new.sink) (g.K.Sink.taken c.args.sink.now)
    (g.K.Sink.taken c.show_tree.new.sink) c.show_tree.result c.args.draft.now c.in-Ok.ensures.files c.in-Ok.ensures.limits c.show_tree.ensures.served

pub returns-in-Err-Fault-clause-served : goal.returns-in-Err-Fault-clause-served
returns-in-Err-Fault-clause-served g c =
    fault_served needs_at (picture_in c.args.snapped) c.args.incoming.now.close c.args.incoming.now.request c.args.steps.now (g.K.Sink.faults c.args.sink.now) (g.K.Sink.faults c.tell_fault.new.sink) (g.K.Sink.taken c.args.sink.now)
    (g.K.Sink.taken c.tell_fault.new.sink) c.tell_fault.result c.args.draft.now c.in-Err-Fault.reason (c.drafted.ensures.fault c.in-Err-Fault.reason (c.in-Err-Fault.is ∙ ap Err c.in-Err-Fault.field-0-is)) c.tell_fault.ensures.told

pub returns-clause-served : goal.returns-clause-served
returns-clause-served g c =
    starved_silently (λ close steps (e : Exchange) later. Shows needs_at c.args.draft.now (picture_in c.args.snapped) e.request close steps e.text e.broken later)
    (λ close steps request text later. Hides needs_at c.args.draft.now (picture_in c.args.snapped) request close steps text later) c.args.incoming.now.close c.args.incoming.now.request c.args.steps.now c.args.steps.now
    (g.K.Sink.faults c.args.sink.now) (g.K.Sink.taken c.args.sink.now) (inl (refl, refl))
