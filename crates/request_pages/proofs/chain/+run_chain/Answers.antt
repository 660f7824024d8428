use Rattle.std.proofs.Common.{ap, refl, sym, subst, ◌∙◌, ◌-◌, ◌<◌, arith}
use Rattle.compiled_pages.proofs.PageLemmas.{paged_good}
use Rattle.compiled_pages.specs.Pages.{paged_at}
use Rattle.run_pages.specs.Meant.{served_at}
use Rattle.request_pages.proofs.ChainLemmas.{chained_done, chained_end, chained_failed, chained_lost, chained_on, chained_short, forward_known, levels_left, none_held, same_chained}
use Rattle.request_pages.proofs.ReadyLemmas.{keeps_on}
use Rattle.request_pages.proofs.chain.+run_chain.Goals as goal
use Rattle.request_pages.specs.Chained.{params_of}
use Rattle.request_pages.specs.Point.{point_over}
use Rattle.request_pages.specs.Ready.{HasPage, IsProgramIn}
use Rattle.request_pages.specs.Target.{IsTargetEnd}
use Rattle.request_pages.specs.declared.chain.Failure.{Failure}
use Rattle.request_port.specs.LeadingLaws.{leads_on}
use Rattle.std.specs.Arc.{arc_value}
use Rattle.std.specs.Option.{option_map}
use Rattle.std.specs.Prelude.{IfOk}
use Rattle.run_world.specs.Seats.{raise_of}

pub returns-in-Err-clause-chained : goal.returns-in-Err-clause-chained
returns-in-Err-clause-chained g t c = λ page made origin s stands.
    let played = c.in-Err.ensures.played page (subst (λ p. IsProgramIn p c.args.port.now.tree.now page) (sym c.deref.ensures) made) origin s stands in
    rw (sym c.params_of-params.ensures) (chained_short c.responses.ensures.unfold c.responses.ensures.grow _ c.args.chain.status page _ _ (omega arith) c.args.incoming.request.now c.args.port.now.tree.now _ s _ _ _ _ c.in-Err.field-0 _ played)

pub returns-in-Ok-Done-clause-chained : goal.returns-in-Ok-Done-clause-chained
returns-in-Ok-Done-clause-chained g t c = λ page made origin s stands.
    let played = c.in-Ok-Done.ensures.played page (subst (λ p. IsProgramIn p c.args.port.now.tree.now page) (sym c.deref.ensures) made) origin s stands in
    rw (sym c.params_of-params.ensures)
    (chained_done c.responses.ensures.unfold c.responses.ensures.grow _ c.args.chain.status page _ _ (omega arith) c.args.incoming.request.now c.args.port.now.tree.now _ s _ _ _ _ c.in-Ok-Done.reply (rw c.in-Ok-Done.field-0-is at played))

pub returns-in-Ok-Failed-clause-chained : goal.returns-in-Ok-Failed-clause-chained
returns-in-Ok-Failed-clause-chained g t c = λ page made origin s stands.
    let played = c.in-Ok-Failed.ensures.played page (subst (λ p. IsProgramIn p c.args.port.now.tree.now page) (sym c.deref.ensures) made) origin s stands in
    rw (sym c.params_of-params.ensures)
    (chained_failed c.responses.ensures.unfold c.responses.ensures.grow _ c.args.chain.status page _ _ (omega arith) c.args.incoming.request.now c.args.port.now.tree.now _ s _ _ _ _ c.in-Ok-Failed.raise
    c.failed.result (ap (λ (f : Failure). f.raise) c.failed.ensures) (c.params_of-params.ensures ∙ ap (λ (f : Failure). params_of c.args.incoming.request.now f.own) (sym c.failed.ensures))
    (subst (λ (f : Failure). IsProgramIn (arc_value f.program) c.args.port.now.tree.now page) (sym c.failed.ensures) made) (rw c.in-Ok-Failed.field-0-is at played))

pub returns-in-Err-again-clause-chained : goal.returns-in-Err-again-clause-chained
returns-in-Err-again-clause-chained g t c = λ page made origin s stands.
    let played = c.in-Ok-Forward.ensures.played page (subst (λ p. IsProgramIn p c.args.port.now.tree.now page) (sym c.deref.ensures) made) origin s stands in
    rw (sym c.params_of-params.ensures)
    (chained_lost c.responses.ensures.unfold c.responses.ensures.grow _ c.args.chain.status page _ _ (omega arith) c.args.incoming.request.now c.args.port.now.tree.now _ s _ _ _ _ c.in-Ok-Forward.path c.in-Ok-Forward.more _ (rw c.in-Ok-Forward.field-0-is at played))

pub run_page-requires-clause-known : goal.run_page-requires-clause-known
run_page-requires-clause-known g t c =
    let here = point_over g.Q.Port.opening g.Q.Port.pass g.Q.Port.seen g.K.Sink.taken g.K.Sink.faults c.args.state.now c.args.sink.now c.args.port.now in
    subst (λ p. HasPage p c.args.port.now.tree.now here) (sym c.deref.ensures) c.requires.known

pub run_chain-requires : goal.run_chain-requires
run_chain-requires g t c κs within =
    let here = c.requires.known in
    let played = rw c.in-Ok-Forward.field-0-is at (c.in-Ok-Forward.ensures.played here.page (subst (λ p. IsProgramIn p c.args.port.now.tree.now here.page) (sym c.deref.ensures) here.made) here.origin here.state here.stands) in
    let known = forward_known _ _ here.page _ _ _ here.state _ _ _ _ _ _ played in
    let quiet = none_held c.run_page.new.state.writer played.after.writer played.stood.writer.committed known.2 in
    let kept = c.in-Ok-Forward.ensures.leads.last c.requires.last in
    let found = rw c.in-Ok-Page.field-0-is at c.in-Ok-Page.ensures.paged in
    let next = found.1 in
    let depth = known.1 in
    let less = known.0 in
    let below : 100 - c.run_page.new.state.around.depth < t = omega (arith, c.decreases, depth, less) in (
      below,
      (
        within.0,
        (
          within.1.0,
          (
            within.1.1.0,
            (
              within.1.1.1,
              (
                quiet,
                (
                  c.in-Ok-Forward.ensures.ready,
                  (kept, record { page = next.page; made = (c.in-Ok-Forward.path, next, next.stands); origin = here.origin; state = played.after; stands = played.stood }),
                ),
              ),
            ),
          ),
        ),
      ),
    )

pub returns-in-Ok-Page-clause-chained : goal.returns-in-Ok-Page-clause-chained
returns-in-Ok-Page-clause-chained g t c = λ page made origin s stands.
    let tree = c.args.port.now.tree.now in
    let around = c.args.state.now.around in
    let played = rw c.in-Ok-Forward.field-0-is at (c.in-Ok-Forward.ensures.played page (subst (λ p. IsProgramIn p c.args.port.now.tree.now page) (sym c.deref.ensures) made) origin s stands) in
    let known = forward_known _ _ page _ _ _ s _ _ _ _ _ _ played in
    let found = rw c.in-Ok-Page.field-0-is at c.in-Ok-Page.ensures.paged in
    let next = found.1 in
    let target = c.in-Ok-Forward.path in
    let same = c.in-Ok-Forward.ensures.tree in
    let good = ap (λ t. paged_at t target) (sym same) ∙ paged_good c.run_page.new.port.tree.now target next.page found.0 next.stands in
    let levels = levels_left _ _ known.0 (omega arith) in
    let l = sym levels ∙ ap (λ d. 100 - d) (sym known.1) in
    let chained = c.run_chain.ensures.chained next.page (target, next, next.stands) origin played.after played.stood in
    rw (sym c.params_of-params.ensures)
    (chained_on c.responses.ensures.unfold (served_at tree c.args.incoming.request.now around) c.args.chain.status page _ _ (omega arith) c.args.incoming.request.now tree _ _ s _ _ _ _ _ _ target _ next.page _ c.run_chain.result good played l
    (same_chained (served_at tree c.args.incoming.request.now around) _ c.args.chain.status _ next.page _ c.args.incoming.request.now tree _ _ played.after _ _ _ c.run_chain.result
    (ap (λ t. served_at t c.args.incoming.request.now c.run_page.new.state.around) same ∙ ap (λ e. record { request = c.args.incoming.request.now; pages = paged_at tree; exception = option_map raise_of e }) c.in-Ok-Forward.ensures.keeps.exception) same chained))

pub returns-in-Ok-Page-clause-keeps : goal.returns-in-Ok-Page-clause-keeps
returns-in-Ok-Page-clause-keeps g t c =
    let old = point_over g.Q.Port.opening g.Q.Port.pass g.Q.Port.seen g.K.Sink.taken g.K.Sink.faults c.args.state.now c.args.sink.now c.args.port.now in
    let mid = point_over g.Q.Port.opening g.Q.Port.pass g.Q.Port.seen g.K.Sink.taken g.K.Sink.faults c.run_page.new.state c.run_page.new.sink c.run_page.new.port in
    let new = point_over g.Q.Port.opening g.Q.Port.pass g.Q.Port.seen g.K.Sink.taken g.K.Sink.faults c.run_chain.new.state c.run_chain.new.sink c.run_chain.new.port in
    keeps_on old mid new c.in-Ok-Forward.ensures.keeps c.run_chain.ensures.keeps

pub returns-in-Ok-Page-clause-leads : goal.returns-in-Ok-Page-clause-leads
returns-in-Ok-Page-clause-leads g t c = leads_on c.args.port.now c.run_page.new.port c.run_chain.new.port c.in-Ok-Forward.ensures.leads c.run_chain.ensures.leads

pub returns-clause-chained : goal.returns-clause-chained
returns-clause-chained g t c = λ page made origin s stands.
    let tree = c.args.port.now.tree.now in
    let played = rw c.in-Ok-Forward.field-0-is at (c.in-Ok-Forward.ensures.played page (subst (λ p. IsProgramIn p c.args.port.now.tree.now page) (sym c.deref.ensures) made) origin s stands) in
    let target = c.in-Ok-Forward.path in
    let told = subst (λ t. IfOk c.end_at_target.result (IsTargetEnd t c.args.chain.status target)) c.in-Ok-Forward.ensures.tree (c.end_at_target.ensures.told c.run_page.new.port.tree.now c.in-Ok.ensures.paged) in
    rw (sym c.params_of-params.ensures)
    (chained_end c.responses.ensures.unfold c.responses.ensures.grow _ c.args.chain.status page _ _ (omega arith) c.args.incoming.request.now tree _ s _ _ _ _ target c.in-Ok-Forward.more c.end_at_target.result (λ p. refl) told played)
