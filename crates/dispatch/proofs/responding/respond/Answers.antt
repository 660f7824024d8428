use Rattle.std.proofs.Common.{[], List, ℕ, inl, refl, sym, subst, ap}
use Rattle.std.specs.Arc.{arc_value}
use Rattle.dispatch.proofs.OpenLemmas.{latest, opened}
use Rattle.dispatch.proofs.ServeLemmas.{at_same}
use Rattle.dispatch.proofs.ServedLemmas.{drops_taken, starves_silently}
use Rattle.dispatch.proofs.responding.respond.Goals as goal
use Rattle.dispatch.specs.Opened.{IsOpened}
use Rattle.dispatch.specs.Started.{Came, HasBegun, Start, started}
use Rattle.page_answers.specs.Dropped.{Drops}
use Rattle.page_answers.specs.Standing.{found, standing_of}
use Rattle.compiled_pages.specs.Pages.{needs_at}
use Rattle.site_words.specs.declared.words.Opening.{Opening}
use Rattle.source_tree.specs.declared.file.File.{File}

pub returns-then-not-takes_method-clause-served : goal.returns-then-not-takes_method-clause-served
returns-then-not-takes_method-clause-served g c =
    let port = c.args.port.now in
    c.not_taken.ensures.served needs_at (g.Q.Port.opening port) (g.Q.Port.pass port) (standing_of (g.Q.Port.seen port) (g.C.Clock.moments c.args.clock.now) c.args.steps.now)

pub serve-requires-clause-opened : goal.serve-requires-clause-opened
serve-requires-clause-opened g c =
    let port = c.args.port.now in
    let mid = c.begin.new.self in
    let x = g.Q.Port.opening port in
    let pass = g.Q.Port.pass port in
    let new = g.Q.Port.seen mid in
    let begun = c.in-Did.begun in
    let starts = c.in-Did.ensures.start in
    let same = c.begin.ensures.same in
    let is = opened needs_at x pass (g.Q.Port.seen port) new c.args.request.now.cookie c.now-moment.result begun.request begun.version begun.session c.in-Did.ensures.call c.law.ensures.sound c.requires.idle.0 c.requires.cookie in
    at_same (λ (x : Opening) (pass : ℕ). IsOpened x pass new begun.request begun.session (arc_value begun.tree)) (g.Q.Port.opening mid) x (g.Q.Port.pass mid) pass (sym same.1) (sym same.0)
    (subst (λ (tree : List File). IsOpened x pass new begun.request begun.session tree) (sym starts.0) is)

pub returns-in-Did-clause-served : goal.returns-in-Did-clause-served
returns-in-Did-clause-served g c =
    let port = c.args.port.now in
    let mid = c.begin.new.self in
    let x = g.Q.Port.opening port in
    let pass = g.Q.Port.pass port in
    let request = c.args.request.now in
    let begun = c.in-Did.begun in
    let starts = c.in-Did.ensures.start in
    let same = c.begin.ensures.same in
    let moments = g.C.Clock.moments c.now-moment.new.self in
    let old = standing_of (g.Q.Port.seen port) (g.C.Clock.moments c.args.clock.now) c.args.steps.now in
    let p : Start = started request c.args.close c.shows_body.result begun.request (arc_value begun.tree) (found request.cookie begun.session begun.attrs) (g.Q.Port.seen mid) c.args.steps.now (g.K.Sink.taken c.args.sink.now) (g.K.Sink.faults c.args.sink.now) in
    at_same (λ (x : Opening) (pass : ℕ). HasBegun x pass old moments p → Came x pass old moments p (g.Q.Port.seen c.serve.new.port) c.serve.new.steps (g.K.Sink.taken c.serve.new.sink) (g.K.Sink.faults c.serve.new.sink) c.serve.result) x (g.Q.Port.opening mid) pass
    (g.Q.Port.pass mid) same.1 same.0 (c.serve.ensures.came old moments)
    (record {
      moment = c.now-moment.result;
      told = c.now-moment.ensures;
      begins = record {
        request = begun.request;
        version = begun.version;
        session = begun.session;
        acts = c.in-Did.ensures.call;
        latest = latest needs_at x pass (g.Q.Port.seen port) (g.Q.Port.seen mid) request.cookie c.now-moment.result begun.request begun.version begun.session c.in-Did.ensures.call;
      };
      number = refl;
      tree = starts.0;
      found = ap (found request.cookie begun.session) starts.1;
      steps = refl;
      shown = c.shows_body.ensures;
      takes = sym c.if-not-takes_method.ensures;
    })

pub returns-in-Refused-clause-served : goal.returns-in-Refused-clause-served
returns-in-Refused-clause-served g c =
    let port = c.args.port.now in
    let mid = c.begin.new.self in
    let call = c.in-Refused.ensures.call in
    c.full.ensures.served needs_at (g.Q.Port.opening port) (g.Q.Port.pass port) (standing_of (g.Q.Port.seen port) (g.C.Clock.moments c.args.clock.now) c.args.steps.now)
    (standing_of (g.Q.Port.seen mid) (g.C.Clock.moments c.now-moment.new.self) c.args.steps.now)
    (record { moment = c.now-moment.result; told = c.now-moment.ensures; stays = call.0; refused = call.1; read = refl })

pub returns-in-NoMemory-clause-served : goal.returns-in-NoMemory-clause-served
returns-in-NoMemory-clause-served g c =
    let port = c.args.port.now in
    let mid = c.begin.new.self in
    let x = g.Q.Port.opening port in
    let pass = g.Q.Port.pass port in
    let request = c.args.request.now in
    let old = standing_of (g.Q.Port.seen port) (g.C.Clock.moments c.args.clock.now) c.args.steps.now in
    let new = standing_of (g.Q.Port.seen mid) (g.C.Clock.moments c.now-moment.new.self) c.args.steps.now in
    starves_silently {starves = λ close old asked text new. Drops needs_at x pass asked close old text new} c.args.close request old new (g.K.Sink.faults c.args.sink.now) (g.K.Sink.faults c.args.sink.now) (g.K.Sink.taken c.args.sink.now)
    (drops_taken needs_at x pass request c.args.close old [] new (sym c.if-not-takes_method.ensures)
    (record { moment = c.now-moment.result; told = c.now-moment.ensures; done = inl (record { stays = c.in-NoMemory.ensures.call; read = refl; text_is = refl }) }))
