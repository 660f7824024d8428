use Rattle.std.proofs.Common.{ap, refl, subst, sym, ◌∙◌, Some, ◌<◌}
use Rattle.std.specs.Option.{ForSome}
use Rattle.pg_value.specs.declared.settings.PageSettings.{PageSettings}
use Rattle.run_pages.specs.Run.{StandsFor}
use Rattle.request_pages.proofs.BufferLemmas.{page_above}
use Rattle.request_pages.proofs.HeadLemmas.{headed_on}
use Rattle.request_pages.proofs.PlayedLemmas.{after_status, after_type, none_committed, played_of, played_short, settings_same}
use Rattle.request_pages.proofs.ReadyLemmas.{begun_funded, begun_in_order, keeps_begun, keeps_here, kept_funded}
use Rattle.request_pages.proofs.running.run_page.Goals as goal
use Rattle.request_pages.specs.Point.{point_of}
use Rattle.request_pages.specs.Ready.{IsReady, KeepsRequest}
use Rattle.request_pages.specs.declared.request_state.RequestState.{RequestState}

pub begin_page-requires-clause-buffered : goal.begin_page-requires-clause-buffered
begin_page-requires-clause-buffered g c =
    let known = c.requires.known in
    let (path, made, is) = known.made in
    let tree = g.P.AppPort.tree c.args.port.now in
    subst (λ (x : PageSettings). ForSome x.buffer (λ size. 0 < size)) (sym (settings_same c.args.asked.program.now tree path known.page made is)) (page_above tree path known.page is)

pub returns-in_default-clause-played : goal.returns-in_default-clause-played
returns-in_default-clause-played g c = λ page known origin s stands.
    let state = c.args.state.now in
    let taken = g.K.Sink.taken c.args.sink.now in
    let faults = g.K.Sink.faults c.args.sink.now in
    let asking = g.P.AppPort.asking c.args.port.now in
    let stood = subst (λ (x : RequestState). StandsFor origin x.scopes x.writer taken faults x.around asking s) (sym c.in_default.ensures.err) stands in
    played_short c.depth.ensures.forwards c.parts.ensures.grow _ c.args.delivery.status page _ _ _ s _ _ _ _ stood (none_committed origin state.scopes state.writer taken faults state.around asking s c.requires.uncommitted stands)

pub run_begun-requires-clause-in_order : goal.run_begun-requires-clause-in_order
run_begun-requires-clause-in_order g c = begun_in_order c.args.state.now c.begin_page.new.state (g.P.AppPort.asking c.args.port.now) c.in-Ok.ensures.session c.in-Ok.ensures.around c.requires.ready.in_order

pub run_begun-requires-clause-promise : goal.run_begun-requires-clause-promise
run_begun-requires-clause-promise g c = begun_funded c.args.state.now.around c.begin_page.new.state.around (g.P.AppPort.asking c.args.port.now) c.in-Ok.ensures.around c.requires.ready.funded

pub run_begun-requires-clause-writer : goal.run_begun-requires-clause-writer
run_begun-requires-clause-writer g c =
    let known = c.requires.known in
    let (path, made, is) = known.made in
    let settings = settings_same c.args.asked.program.now (g.P.AppPort.tree c.args.port.now) path known.page made is in
    let begun = c.in-Ok.ensures.stands known.origin (g.K.Sink.taken c.args.sink.now) (g.K.Sink.faults c.args.sink.now) (g.P.AppPort.asking c.args.port.now) known.state known.page settings known.stands in
    (known.origin.start, known.origin.before, _, begun.writer)

pub returns-clause-played : goal.returns-clause-played
returns-clause-played g c = λ page known origin s stands.
    let (path, made, is) = known in
    let tree = g.P.AppPort.tree c.args.port.now in
    let settings = settings_same c.args.asked.program.now tree path page made is in
    let begun = c.in-Ok.ensures.stands origin (g.K.Sink.taken c.args.sink.now) (g.K.Sink.faults c.args.sink.now) (g.P.AppPort.asking c.args.port.now) s page settings stands in
    let head = c.run_begun.ensures.response.head in
    let st = ap (λ h. h.status) head ∙ (after_status c.begin_page.new.state.writer.head _ _ _ ∙ ap (λ h. h.status) c.in-Ok.ensures.head) in
    let ct = ap (λ h. h.content_type) head ∙ (after_type c.begin_page.new.state.writer.head _ _ _ ∙ (ap (λ h. h.content_type) c.in-Ok.ensures.head ∙ ap (λ x. Some x.content_type) settings)) in
    rw (sym c.in-Ok.ensures.around) (played_of c.depth.ensures.forwards c.parts.ensures.grow _ c.args.delivery.status page _ _ _ s _ _ _ _ c.run_begun.result (sym st) (sym ct) (c.run_begun.ensures.ended page known origin _ begun))

pub returns-in_default-clause-ready : goal.returns-in_default-clause-ready
returns-in_default-clause-ready g c =
    let asking = g.P.AppPort.asking c.args.port.now in
    subst (λ (x : RequestState). IsReady c.args.delivery.close c.args.delivery.shown (point_of g.K.Sink.taken g.K.Sink.faults x c.args.sink.now asking)) (sym c.in_default.ensures.err) c.requires.ready

pub returns-in_default-clause-keeps : goal.returns-in_default-clause-keeps
returns-in_default-clause-keeps g c =
    let asking = g.P.AppPort.asking c.args.port.now in
    let old = point_of g.K.Sink.taken g.K.Sink.faults c.args.state.now c.args.sink.now asking in
    subst (λ (x : RequestState). KeepsRequest old (point_of g.K.Sink.taken g.K.Sink.faults x c.args.sink.now asking)) (sym c.in_default.ensures.err) (keeps_here old)

pub returns-clause-keeps : goal.returns-clause-keeps
returns-clause-keeps g c =
    let asking = g.P.AppPort.asking c.args.port.now in
    let old = point_of g.K.Sink.taken g.K.Sink.faults c.args.state.now c.args.sink.now asking in
    let begun = point_of g.K.Sink.taken g.K.Sink.faults c.begin_page.new.state c.args.sink.now asking in
    let new = point_of g.K.Sink.taken g.K.Sink.faults c.run_begun.new.state c.run_begun.new.sink (g.P.AppPort.asking c.run_begun.new.port) in
    keeps_begun old begun new c.in-Ok.ensures.around refl c.run_begun.ensures.keeps

pub returns-clause-ready : goal.returns-clause-ready
returns-clause-ready g c =
    let asking = g.P.AppPort.asking c.args.port.now in
    let old = point_of g.K.Sink.taken g.K.Sink.faults c.args.state.now c.args.sink.now asking in
    let begun = point_of g.K.Sink.taken g.K.Sink.faults c.begin_page.new.state c.args.sink.now asking in
    let new = point_of g.K.Sink.taken g.K.Sink.faults c.run_begun.new.state c.run_begun.new.sink (g.P.AppPort.asking c.run_begun.new.port) in
    let keeps = c.run_begun.ensures.keeps in
    record {
      headed = headed_on c.args.delivery.close c.args.delivery.shown c.begin_page.new.state.around c.run_begun.new.state.around c.begin_page.new.state.writer c.run_begun.new.state.writer c.run_begun.ensures.response keeps.session
          (record { status = c.args.delivery.status; content_type = Some c.args.asked.program.now.settings.content_type; head = c.in-Ok.ensures.head; shown_is = c.in-Ok.ensures.shown });
      in_order = c.run_begun.ensures.in_order;
      funded = kept_funded old new (keeps_begun old begun new c.in-Ok.ensures.around refl keeps) c.requires.ready.funded;
    }
