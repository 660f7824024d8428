use Rattle.std.proofs.Common.{◌≡◌, length, true, arith}
use Rattle.std.specs.Prelude.{nat_le}
use Rattle.std.proofs.lemmas.Bool.Decides.{nat_tests}
use Rattle.compiled_pages.specs.Pages.{needs_at}
use Rattle.conversation.specs.declared.desk.Outcome.TheVariants.{NoMemory}
use Rattle.preview.proofs.AskedLemmas.{is_full, refused_full, refused_served, runnable_by, shown_served, unasked}
use Rattle.preview.proofs.ShownLemmas.{starved_silently}
use Rattle.preview_words.specs.Previewed.{IsPreviewed, Leaves, preview_stand}
use Rattle.site_words.specs.Weights.{most_cookie}
use Rattle.preview.proofs.asking.ask.Goals as goal

pub snapshot-requires : goal.snapshot-requires
snapshot-requires g c =
    let short : nat_le (length c.args.incoming.now.request.cookie) most_cookie ≡ true = grind (arith, nat_tests, c.requires.cookie) in
    record { may = (c.requires.pass, short, tt) }

pub show-requires : goal.show-requires
show-requires g c =
    let x = g.P.Port.opening c.args.port.now in
    let pass = g.P.Port.pass c.args.port.now in
    let seen = g.P.Port.seen c.args.port.now in
    let now = g.P.Port.seen c.snapshot.new.self in
    let snapped = c.in-Did.snapped in
    record {
      taken = c.requires.taken;
      runnable = runnable_by needs_at x now c.args.draft.now snapped c.own_sites.ensures c.law.ensures.sound c.in-Did.ensures.call.is_legal c.in-Did.ensures.shows
          (c.pictures.ensures.latest needs_at x pass seen now c.args.incoming.now.request.cookie snapped.version snapped.session c.in-Did.ensures.call);
    }

pub returns-in-Did-clause-served : goal.returns-in-Did-clause-served
returns-in-Did-clause-served g c =
    shown_served needs_at (g.P.Port.opening c.args.port.now) (g.P.Port.pass c.args.port.now) c.args.draft.now c.args.incoming.now.close c.args.incoming.now.request (g.P.Port.seen c.args.port.now) (g.P.Port.seen c.snapshot.new.self)
    (g.K.Sink.faults c.args.sink.now) (g.K.Sink.faults c.show.new.sink) (g.K.Sink.taken c.args.sink.now) (g.K.Sink.taken c.show.new.sink) c.show.result c.requires.pages c.requires.taken
    c.args.steps.now c.show.new.steps c.in-Did.snapped c.in-Did.ensures.call c.in-Did.ensures.shows c.show.ensures.served

pub tell_full-requires : goal.tell_full-requires
tell_full-requires g c =
    let by = refused_full needs_at (g.P.Port.opening c.args.port.now) (g.P.Port.pass c.args.port.now) (g.P.Port.seen c.snapshot.new.self) c.args.incoming.now.request.cookie c.in-Refused.refusal c.in-Refused.ensures.call.1 in
    record { full = is_full c.in-Refused.refusal by }

pub returns-in-Refused-clause-served : goal.returns-in-Refused-clause-served
returns-in-Refused-clause-served g c =
    let by = refused_full needs_at (g.P.Port.opening c.args.port.now) (g.P.Port.pass c.args.port.now) (g.P.Port.seen c.snapshot.new.self) c.args.incoming.now.request.cookie c.in-Refused.refusal c.in-Refused.ensures.call.1 in
    refused_served needs_at (g.P.Port.opening c.args.port.now) (g.P.Port.pass c.args.port.now) c.args.draft.now c.args.incoming.now.close c.args.incoming.now.request (g.P.Port.seen c.args.port.now) (g.P.Port.seen c.snapshot.new.self)
    (g.K.Sink.faults c.args.sink.now) (g.K.Sink.faults c.tell_full.new.sink) (g.K.Sink.taken c.args.sink.now) (g.K.Sink.taken c.tell_full.new.sink) c.tell_full.result c.requires.pages c.requires.taken
    c.args.steps.now by.weight by.promised c.in-Refused.refusal c.in-Refused.ensures.call.0 c.in-Refused.ensures.call.1 by.is (c.tell_full.ensures.told by.weight by.promised by.is)

pub returns-in-NoMemory-clause-served : goal.returns-in-NoMemory-clause-served
returns-in-NoMemory-clause-served g c =
    let x = g.P.Port.opening c.args.port.now in
    let pass = g.P.Port.pass c.args.port.now in
    starved_silently (IsPreviewed needs_at x pass) (λ close old request text new. Leaves needs_at x pass request close old text new) c.args.incoming.now.close c.args.incoming.now.request
    (preview_stand c.args.draft.now (g.P.Port.seen c.args.port.now) c.args.steps.now) (preview_stand c.args.draft.now (g.P.Port.seen c.snapshot.new.self) c.args.steps.now) (g.K.Sink.faults c.args.sink.now) (g.K.Sink.taken c.args.sink.now)
    (unasked needs_at x pass c.args.draft.now c.args.incoming.now.close c.args.incoming.now.request (g.P.Port.seen c.args.port.now) (g.P.Port.seen c.snapshot.new.self) (g.K.Sink.faults c.args.sink.now) (g.K.Sink.faults c.args.sink.now) (g.K.Sink.taken c.args.sink.now)
    (g.K.Sink.taken c.args.sink.now) NoMemory c.requires.pages c.requires.taken c.args.steps.now c.in-NoMemory.ensures.call)
