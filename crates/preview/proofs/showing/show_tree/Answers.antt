use Rattle.std.proofs.Common.{arith}
use Rattle.compiled_pages.specs.Pages.{needs_at}
use Rattle.preview.proofs.ShownLemmas.{run_served, version_served}
use Rattle.preview_words.specs.Own.{picture_in}
use Rattle.preview.proofs.showing.show_tree.Goals as goal

pub returns-then-snapped-gt-LAST_VERSION-clause-served : goal.returns-then-snapped-gt-LAST_VERSION-clause-served
returns-then-snapped-gt-LAST_VERSION-clause-served g c =
    version_served needs_at (picture_in c.args.snapped) c.args.incoming.now.close c.args.incoming.now.request c.args.steps.now (g.K.Sink.faults c.args.sink.now) (g.K.Sink.faults c.tell.new.sink) (g.K.Sink.taken c.args.sink.now) (g.K.Sink.taken c.tell.new.sink) c.tell.result
    c.args.tree (omega arith) c.tell.ensures.told

pub returns-clause-served : goal.returns-clause-served
returns-clause-served g c =
    run_served needs_at c.args.tree (picture_in c.args.snapped) c.args.incoming.now.close c.args.incoming.now.request c.args.steps.now c.run.new.steps (g.K.Sink.faults c.args.sink.now) (g.K.Sink.faults c.run.new.sink) (g.K.Sink.taken c.args.sink.now)
    (g.K.Sink.taken c.run.new.sink) c.run.result (omega arith) c.run.ensures.served
