use Rattle.std.proofs.Common.{ap, sym, subst, ◌∙◌}
use Rattle.std.specs.Arc.{arc_value}
use Rattle.std.specs.Option.{option_map}
use Rattle.compiled_pages.specs.Pages.{paged_at}
use Rattle.run_pages.specs.Meant.{served_at}
use Rattle.request_pages.proofs.ChainLemmas.{none_held}
use Rattle.request_pages.proofs.CloseLemmas.{reached}
use Rattle.request_pages.proofs.FirstLemmas.{failed_known, first_done, first_failed, first_lost}
use Rattle.request_pages.proofs.ReadyLemmas.{kept_low}
use Rattle.request_pages.proofs.answering.first_page.Goals as goal
use Rattle.request_pages.specs.Ready.{IsProgramIn}
use Rattle.request_port.specs.LeadingLaws.{leads_on}
use Rattle.run_world.specs.Seats.{raise_of}

pub returns-in-Err-clause-closed : goal.returns-in-Err-clause-closed
returns-in-Err-clause-closed g c = λ page made origin s stands.
    first_lost _ _ c.responses.ensures.grow (served_at c.args.port.now.tree.now c.args.incoming.request.now c.args.state.now.around) page c.args.incoming.request.now c.args.port.now.tree.now _ _ s _ _ _ (λ t h. reached _ _ _ _ _ _ _ t h)
    (rw c.requires.depth at (c.in-Err.ensures.chained page made origin s stands))

pub returns-in-Ok-Done-clause-closed : goal.returns-in-Ok-Done-clause-closed
returns-in-Ok-Done-clause-closed g c = λ page made origin s stands.
    first_done c.in-Ok-Done.reply (served_at c.args.port.now.tree.now c.args.incoming.request.now c.args.state.now.around) page c.args.incoming.request.now c.args.port.now.tree.now _ _ s _ _ _ (λ t h. reached _ _ _ _ _ _ _ t h)
    (rw (c.in-Ok-Done.field-0-is, c.requires.depth) at (c.in-Ok-Done.ensures.chained page made origin s stands))

pub run_error-requires-clause-uncommitted : goal.run_error-requires-clause-uncommitted
run_error-requires-clause-uncommitted g c =
    let here = c.requires.known in
    let ran = rw c.in-Ok-Failed.field-0-is at (c.in-Ok-Failed.ensures.chained here.page here.made here.origin here.state here.stands) in
    let known = failed_known c.in-Ok-Failed.failure _ c.args.incoming.request.now c.args.port.now.tree.now _ here.state _ _ _ ran in
    none_held c.run_chain.new.state.writer ran.after.writer ran.stood.writer.committed known.1

pub run_error-requires-clause-charge : goal.run_error-requires-clause-charge
run_error-requires-clause-charge g c = kept_low c.args.state.now.around.charge c.run_chain.new.state.around.charge c.in-Ok-Failed.ensures.keeps.charged.charge c.requires.charge

pub run_error-requires-clause-known : goal.run_error-requires-clause-known
run_error-requires-clause-known g c =
    let here = c.requires.known in
    let ran = rw c.in-Ok-Failed.field-0-is at (c.in-Ok-Failed.ensures.chained here.page here.made here.origin here.state here.stands) in
    let known = failed_known c.in-Ok-Failed.failure _ c.args.incoming.request.now c.args.port.now.tree.now _ here.state _ _ _ ran in
    record {
      page = ran.ends.0;
      made = subst (λ t. IsProgramIn (arc_value c.in-Ok-Failed.failure.program) t ran.ends.0) (sym c.in-Ok-Failed.ensures.tree) known.0;
      origin = here.origin;
      state = ran.after;
      stands = ran.stood;
    }

pub returns-in-Ok-Failed-clause-closed : goal.returns-in-Ok-Failed-clause-closed
returns-in-Ok-Failed-clause-closed g c = λ page made origin s stands.
    let tree = c.args.port.now.tree.now in
    let served = served_at tree c.args.incoming.request.now c.args.state.now.around in
    let ran = rw (c.in-Ok-Failed.field-0-is, c.requires.depth) at (c.in-Ok-Failed.ensures.chained page made origin s stands) in
    let known = failed_known c.in-Ok-Failed.failure _ c.args.incoming.request.now tree _ s _ _ _ ran in
    let same = c.in-Ok-Failed.ensures.tree in
    let last = ran.ends.0 in
    let closed = c.run_error.ensures.closed last (subst (λ t. IsProgramIn (arc_value c.in-Ok-Failed.failure.program) t last) (sym same) known.0) origin ran.after ran.stood known.1 in
    first_failed c.in-Ok-Failed.failure served _ page c.args.incoming.request.now tree _ _ s _ _ _ _ _ c.run_error.result
    (ap (λ t. served_at t c.args.incoming.request.now c.run_chain.new.state.around) same ∙ ap (λ e. record { request = c.args.incoming.request.now; pages = paged_at tree; exception = option_map raise_of e }) c.in-Ok-Failed.ensures.keeps.exception) ran closed

pub returns-in-Ok-Failed-clause-leads : goal.returns-in-Ok-Failed-clause-leads
returns-in-Ok-Failed-clause-leads g c = leads_on c.args.port.now c.run_chain.new.port c.run_error.new.port c.in-Ok-Failed.ensures.leads c.run_error.ensures.leads
