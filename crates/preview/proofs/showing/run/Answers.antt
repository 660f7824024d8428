use Rattle.std.proofs.Common.{◌⊎◌, inl, refl}
use Rattle.conversation.specs.Exchange.{Exchange}
use Rattle.compiled_pages.specs.Pages.{needs_at}
use Rattle.preview.proofs.OwnLemmas.{own_idle, run_on, short_cookie}
use Rattle.preview.proofs.ShownLemmas.{starved_silently}
use Rattle.preview_words.specs.Own.{own_opening, picture_in}
use Rattle.preview_words.specs.Shown.{IsRun, IsRunDropped, IsSilent}
use Rattle.preview.proofs.showing.run.Goals as goal

pub returns-in_default-clause-served : goal.returns-in_default-clause-served
returns-in_default-clause-served g c =
    starved_silently (λ close steps (e : Exchange) later. IsRun needs_at (own_opening c.args.tree (picture_in c.args.snapped)) c.args.snapped.session e.request close steps e.text e.broken later)
    (λ close steps request text later. IsSilent steps text later ⊎ IsRunDropped needs_at (own_opening c.args.tree (picture_in c.args.snapped)) c.args.snapped.session request close steps text later)
    c.args.incoming.now.close c.args.incoming.now.request c.args.steps.now c.args.steps.now (g.K.Sink.faults c.args.sink.now) (g.K.Sink.taken c.args.sink.now) (inl (refl, refl))

pub respond-requires-clause-idle : goal.respond-requires-clause-idle
respond-requires-clause-idle g c =
    own_idle c.args.tree (picture_in c.args.snapped) c.in-Ok.port.actor.site.opening c.in-Ok.port.actor.site.history c.in-Ok.ensures.opening c.in-Ok.ensures.history

pub respond-requires-clause-cookie : goal.respond-requires-clause-cookie
respond-requires-clause-cookie g c = rw c.in-Ok.ensures.cookie (short_cookie c.args.snapped.session)

pub returns-clause-served : goal.returns-clause-served
returns-clause-served g c =
    run_on c.args.tree (picture_in c.args.snapped) c.args.incoming.now.close c.args.incoming.now.request c.args.steps.now c.respond.new.steps (g.K.Sink.faults c.args.sink.now) (g.K.Sink.faults c.respond.new.sink)
    (g.K.Sink.taken c.args.sink.now) (g.K.Sink.taken c.respond.new.sink) c.respond.result c.in-Ok.port.actor.site.opening c.in-Ok.port.actor.site.history c.respond.new.port.actor.site.history c.in-Ok.cookie
    c.requires.taken c.in-Ok.ensures.opening c.in-Ok.ensures.history c.in-Ok.ensures.cookie c.respond.ensures.served
