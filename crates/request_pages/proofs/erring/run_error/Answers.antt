use Rattle.std.proofs.Common.{ap, refl, sym, subst, Some}
use Rattle.http_out.specs.declared.status.Status.TheVariants as status_is
use Rattle.std.specs.Arc.{arc_value}
use Rattle.compiled_pages.proofs.PageLemmas.{paged_good}
use Rattle.page_meaning.specs.Respond.{with_exception, with_no_visits}
use Rattle.page_meaning.specs.Work.{fetched}
use Rattle.run_pages.specs.Meant.{served_at}
use Rattle.request_pages.proofs.ChainLemmas.{same_chained}
use Rattle.request_pages.proofs.CloseLemmas.{begun_again, closed_done, closed_failed, closed_vain, reached}
use Rattle.request_pages.proofs.HeadLemmas.{headed_looked, headed_same}
use Rattle.request_pages.proofs.ReadyLemmas.{again_in_order, page_uncommitted}
use Rattle.request_pages.specs.Chained.{params_of}
use Rattle.request_pages.specs.Ready.{IsProgramIn}
use Rattle.request_pages.proofs.erring.run_error.Goals as goal
use Rattle.request_port.specs.LeadingLaws.{leads_on}
use Rattle.run_world.specs.Seats.{raise_of}
use Rattle.run_world.specs.declared.around.Around.{Around}

pub returns-in-Told-clause-closed : goal.returns-in-Told-clause-closed
returns-in-Told-clause-closed g c = λ page made origin s stands none.
    let request = c.args.incoming.request.now in
    (c.in-Told.ensures.found page made (served_at c.args.port.now.tree.now request c.args.state.now.around) (λ p. refl) (params_of request c.args.failure.own) origin _ _ _ _ s stands none).so

pub returns-in-Told-clause-headed : goal.returns-in-Told-clause-headed
returns-in-Told-clause-headed g c = headed_looked c.args.incoming.close c.args.incoming.shown c.args.state.now.around c.find_instead.new.around c.args.state.now.writer c.in-Told.ensures.around c.requires.ready.headed

pub returns-in-Told-clause-in_order : goal.returns-in-Told-clause-in_order
returns-in-Told-clause-in_order g c = c.in-Told.ensures.in_order c.args.state.now.scopes c.requires.ready.in_order

pub run_chain-requires-clause-ready : goal.run_chain-requires-clause-ready
run_chain-requires-clause-ready g c =
    let looked = c.find_instead.new.around in
    let same = c.in-Page.ensures.around in
    record {
      headed = headed_same c.args.incoming.close c.args.incoming.shown c.args.state.now.around (record looked { visits = 0; depth = 0; exception = Some c.args.failure.raise }) c.args.state.now.writer (ap (λ (a : Around). a.id) same) (ap (λ (a : Around). a.fresh) same)
          c.requires.ready.headed;
      in_order = again_in_order c.args.state.now.scopes looked (Some c.args.failure.raise) _ (c.in-Page.ensures.in_order c.args.state.now.scopes c.requires.ready.in_order);
      funded = c.in-Page.ensures.funded;
    }

pub run_chain-requires-clause-known : goal.run_chain-requires-clause-known
run_chain-requires-clause-known g c =
    let here = c.requires.known in
    let none = page_uncommitted _ _ _ here c.requires.uncommitted in
    let request = c.args.incoming.request.now in
    let found = c.in-Page.ensures.found here.page here.made (served_at c.args.port.now.tree.now request c.args.state.now.around) (λ p. refl) (params_of request c.args.failure.own) here.origin _ _ _ _ here.state here.stands none in
    let next = found.so.0 in
    record {
      page = next.made.page;
      made = subst (λ t. IsProgramIn (arc_value c.in-Page.program) t next.made.page) (sym c.in-Page.ensures.tree) (next.path, next.made, next.made.stands);
      origin = here.origin;
      state = with_no_visits (fetched next.path here.state);
      stands = begun_again here.origin _ _ _ _ c.find_instead.new.around (Some c.args.failure.raise) _ (fetched next.path here.state) next.stood;
    }

pub returns-in-Err-clause-leads : goal.returns-in-Err-clause-leads
returns-in-Err-clause-leads g c = leads_on c.args.port.now c.find_instead.new.port c.run_chain.new.port c.in-Page.ensures.leads c.run_chain.ensures.leads

pub returns-in-Ok-Done-clause-leads : goal.returns-in-Ok-Done-clause-leads
returns-in-Ok-Done-clause-leads g c = leads_on c.args.port.now c.find_instead.new.port c.run_chain.new.port c.in-Page.ensures.leads c.run_chain.ensures.leads

pub returns-in-Ok-Failed-clause-leads : goal.returns-in-Ok-Failed-clause-leads
returns-in-Ok-Failed-clause-leads g c = leads_on c.args.port.now c.find_instead.new.port c.run_chain.new.port c.in-Page.ensures.leads c.run_chain.ensures.leads

pub returns-in-Err-clause-closed : goal.returns-in-Err-clause-closed
returns-in-Err-clause-closed g c = λ page made origin s stands none.
    let tree = c.args.port.now.tree.now in
    let request = c.args.incoming.request.now in
    let served = served_at tree request c.args.state.now.around in
    let params = params_of request c.args.failure.own in
    let found = c.in-Page.ensures.found page made served (λ p. refl) params origin _ _ _ _ s stands none in
    let next = found.so.0 in
    let same = c.in-Page.ensures.tree in
    let begun = begun_again origin _ _ _ _ c.find_instead.new.around (Some c.args.failure.raise) _ (fetched next.path s) next.stood in
    let ran = c.in-Err.ensures.chained next.made.page (subst (λ t. IsProgramIn (arc_value c.in-Page.program) t next.made.page) (sym same) (next.path, next.made, next.made.stands)) origin (with_no_visits (fetched next.path s)) begun in
    let chained = same_chained (with_exception (raise_of c.args.failure.raise) served) _ status_is.InternalServerError 100 next.made.page params request tree _ _ (with_no_visits (fetched next.path s)) _ _ _ _ (ap (λ t. served_at t request (record c.find_instead.new.around { visits = 0; depth = 0; exception = Some c.args.failure.raise })) same) same ran in
    closed_vain _ _ c.responses.ensures.grow served page params (raise_of c.args.failure.raise) next.path next.made.page request tree _ _ s _ _ _ _ next.named (paged_good tree next.path next.made.page next.there next.made.stands) found.so.2 (λ t h. reached _ _ _ _ _ _ _ t h) chained

pub returns-in-Ok-Done-clause-closed : goal.returns-in-Ok-Done-clause-closed
returns-in-Ok-Done-clause-closed g c = λ page made origin s stands none.
    let tree = c.args.port.now.tree.now in
    let request = c.args.incoming.request.now in
    let served = served_at tree request c.args.state.now.around in
    let params = params_of request c.args.failure.own in
    let found = c.in-Page.ensures.found page made served (λ p. refl) params origin _ _ _ _ s stands none in
    let next = found.so.0 in
    let same = c.in-Page.ensures.tree in
    let begun = begun_again origin _ _ _ _ c.find_instead.new.around (Some c.args.failure.raise) _ (fetched next.path s) next.stood in
    let ran = c.in-Ok-Done.ensures.chained next.made.page (subst (λ t. IsProgramIn (arc_value c.in-Page.program) t next.made.page) (sym same) (next.path, next.made, next.made.stands)) origin (with_no_visits (fetched next.path s)) begun in
    let chained = same_chained (with_exception (raise_of c.args.failure.raise) served) _ status_is.InternalServerError 100 next.made.page params request tree _ _ (with_no_visits (fetched next.path s)) _ _ _ _ (ap (λ t. served_at t request (record c.find_instead.new.around { visits = 0; depth = 0; exception = Some c.args.failure.raise })) same) same ran in
    closed_done c.in-Ok-Done.reply served page params (raise_of c.args.failure.raise) next.path next.made.page request tree _ _ s _ _ _ _ next.named (paged_good tree next.path next.made.page next.there next.made.stands) found.so.2 (λ t h. reached _ _ _ _ _ _ _ t h) (rw c.in-Ok-Done.field-0-is at chained)

pub returns-in-Ok-Failed-clause-closed : goal.returns-in-Ok-Failed-clause-closed
returns-in-Ok-Failed-clause-closed g c = λ page made origin s stands none.
    let tree = c.args.port.now.tree.now in
    let request = c.args.incoming.request.now in
    let served = served_at tree request c.args.state.now.around in
    let params = params_of request c.args.failure.own in
    let found = c.in-Page.ensures.found page made served (λ p. refl) params origin _ _ _ _ s stands none in
    let next = found.so.0 in
    let same = c.in-Page.ensures.tree in
    let begun = begun_again origin _ _ _ _ c.find_instead.new.around (Some c.args.failure.raise) _ (fetched next.path s) next.stood in
    let ran = c.in-Ok-Failed.ensures.chained next.made.page (subst (λ t. IsProgramIn (arc_value c.in-Page.program) t next.made.page) (sym same) (next.path, next.made, next.made.stands)) origin (with_no_visits (fetched next.path s)) begun in
    let chained = same_chained (with_exception (raise_of c.args.failure.raise) served) _ status_is.InternalServerError 100 next.made.page params request tree _ _ (with_no_visits (fetched next.path s)) _ _ _ _ (ap (λ t. served_at t request (record c.find_instead.new.around { visits = 0; depth = 0; exception = Some c.args.failure.raise })) same) same ran in
    closed_failed c.in-Ok-Failed.second c.in-Page.line served page params (raise_of c.args.failure.raise) next.path next.made.page request tree _ _ s _ _ _ _ next.named (paged_good tree next.path next.made.page next.there next.made.stands) found.so.2 (λ t h. reached _ _ _ _ _ _ _ t h) found.so.1 (rw c.in-Ok-Failed.field-0-is at chained)
