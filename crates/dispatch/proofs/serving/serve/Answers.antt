use Rattle.std.proofs.Common.{◌≤◌, [], ℕ, List, refl, sym, subst}
use Rattle.std.specs.Arc.{arc_value}
use Rattle.dispatch.proofs.OpenLemmas.{session_light}
use Rattle.dispatch.proofs.ServeLemmas.{at_same, begun_as, begun_starves, none_taken}
use Rattle.dispatch.proofs.serving.serve.Goals as goal
use Rattle.dispatch.specs.Begun.{empty_head}
use Rattle.dispatch.specs.Opened.{IsOpened}
use Rattle.dispatch.specs.Started.{Came, HasBegun, Ran, Replies, Start, Starves, started}
use Rattle.page_answers.specs.Standing.{found}
use Rattle.compiled_pages.specs.Pages.{needs_at}
use Rattle.page_meaning.specs.Respond.{beginning}
use Rattle.pg_value.specs.Datum.{Datum}
use Rattle.site_words.specs.Weights.{attrs_limit, attrs_weight}
use Rattle.site_words.specs.declared.words.Opening.{Opening}
use Rattle.source_tree.specs.declared.file.File.{File}

pub reply_from_pages-requires : goal.reply_from_pages-requires
reply_from_pages-requires g c =
    let port = c.args.port.now in
    let x = g.Q.Port.opening port in
    let seen = g.Q.Port.seen port in
    let begun = c.args.begun in
    record {
      opened = (
        begun.session,
        begun.attrs,
        subst (λ (tree : List File). IsOpened x (g.Q.Port.pass port) seen begun.request begun.session tree) (sym c.deref.ensures) c.requires.opened,
        c.in-Ok.ensures,
        subst (λ (attrs : List (List ℕ × Datum)). attrs_weight attrs ≤ attrs_limit) (sym c.requires.starts.1) (session_light needs_at x seen begun.session c.law.ensures.sound c.law.ensures.legal),
      );
    }

pub returns-in_default-clause-came : goal.returns-in_default-clause-came
returns-in_default-clause-came g c = λ old moments begins.
    let port = c.args.port.now in
    let x = g.Q.Port.opening port in
    let pass = g.Q.Port.pass port in
    let request = c.args.incoming.request.now in
    let begun = c.args.begun in
    let shown = c.args.incoming.shown in
    let tree = arc_value begun.tree in
    let session = found request.cookie begun.session begun.attrs in
    let taken = g.K.Sink.taken c.args.sink.now in
    let faults = g.K.Sink.faults c.args.sink.now in
    let p : Start = started request c.args.incoming.close shown begun.request tree session (g.Q.Port.seen port) c.args.steps.now taken faults in
    c.abandon.ensures.came p old moments c.args.steps.now (empty_head c.args.incoming.close) (beginning session []) (record { number_is = refl; close_is = refl; shown_is = refl }) begins (begun_starves x pass p (empty_head c.args.incoming.close) c.law.ensures.legal) refl (none_taken taken faults)

pub returns-in-Ok-reply_from_pages-clause-came : goal.returns-in-Ok-reply_from_pages-clause-came
returns-in-Ok-reply_from_pages-clause-came g c = λ old moments begins.
    let port = c.args.port.now in
    let x = g.Q.Port.opening port in
    let pass = g.Q.Port.pass port in
    let request = c.args.incoming.request.now in
    let begun = c.args.begun in
    let shown = c.args.incoming.shown in
    let tree = c.deref.result.now in
    let session = found request.cookie begun.session begun.attrs in
    let taken = g.K.Sink.taken c.args.sink.now in
    let faults = g.K.Sink.faults c.args.sink.now in
    let p : Start = started request c.args.incoming.close shown begun.request tree session (g.Q.Port.seen port) c.args.steps.now taken faults in
    let here = begun_as x pass old moments request c.args.incoming.close shown begun.request (arc_value begun.tree) tree session (g.Q.Port.seen port) c.args.steps.now taken faults c.deref.ensures begins in
    let replies = c.in-Ok-reply_from_pages.ensures.ran begun.session begun.attrs c.in-Ok.ensures in
    let mid = c.reply_from_pages.new.port in
    let same = c.reply_from_pages.ensures.same in
    at_same
    (λ (x : Opening) (pass : ℕ). HasBegun x pass old moments p → Replies x pass p (g.Q.Port.seen mid) c.reply_from_pages.new.steps c.reply_from_pages.new.state (g.K.Sink.taken c.reply_from_pages.new.sink) (g.K.Sink.faults c.reply_from_pages.new.sink) c.in-Ok-reply_from_pages.reply
    → Came x pass old moments p (g.Q.Port.seen c.finish.new.port) c.reply_from_pages.new.steps (g.K.Sink.taken c.finish.new.sink) (g.K.Sink.faults c.finish.new.sink) c.finish.result) x (g.Q.Port.opening mid) pass (g.Q.Port.pass mid) same.1 same.0
    (c.finish.ensures.came p old moments c.reply_from_pages.new.steps (record { number_is = refl; close_is = refl; shown_is = refl })) here replies

pub returns-clause-came : goal.returns-clause-came
returns-clause-came g c = λ old moments begins.
    let port = c.args.port.now in
    let x = g.Q.Port.opening port in
    let pass = g.Q.Port.pass port in
    let request = c.args.incoming.request.now in
    let begun = c.args.begun in
    let shown = c.args.incoming.shown in
    let tree = c.deref.result.now in
    let session = found request.cookie begun.session begun.attrs in
    let taken = g.K.Sink.taken c.args.sink.now in
    let faults = g.K.Sink.faults c.args.sink.now in
    let p : Start = started request c.args.incoming.close shown begun.request tree session (g.Q.Port.seen port) c.args.steps.now taken faults in
    let here = begun_as x pass old moments request c.args.incoming.close shown begun.request (arc_value begun.tree) tree session (g.Q.Port.seen port) c.args.steps.now taken faults c.deref.ensures begins in
    let starves = c.in-Err.ensures.ran begun.session begun.attrs c.in-Ok.ensures in
    let mid = c.reply_from_pages.new.port in
    let same = c.reply_from_pages.ensures.same in
    let state = c.reply_from_pages.new.state in
    let sent = g.K.Sink.taken c.reply_from_pages.new.sink in
    let counted = g.K.Sink.faults c.reply_from_pages.new.sink in
    at_same
    (λ (x : Opening) (pass : ℕ). HasBegun x pass old moments p → (ran : Ran x pass p (g.Q.Port.seen mid) state sent counted) × Starves x pass p (g.Q.Port.seen mid) c.reply_from_pages.new.steps state.writer.head ran.after
    → Came x pass old moments p (g.Q.Port.seen c.give_up.new.port) c.reply_from_pages.new.steps (g.K.Sink.taken c.give_up.new.sink) (g.K.Sink.faults c.give_up.new.sink) c.give_up.result) x (g.Q.Port.opening mid) pass (g.Q.Port.pass mid) same.1 same.0
    (λ begins short. c.give_up.ensures.came p old moments c.reply_from_pages.new.steps state short.0 (record { number_is = refl; close_is = refl; shown_is = refl }) begins c.committed.ensures short.1) here starves
