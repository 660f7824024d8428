use Rattle.std.proofs.Common.{ap, refl, sym, subst, ◌∙◌}
use Rattle.std.specs.Arc.{arc_value}
use Rattle.compiled_pages.proofs.PageLemmas.{paged_absent, paged_bad, paged_good, paged_plain}
use Rattle.page_meaning.specs.Context.{absent, bad, plain}
use Rattle.page_meaning.specs.Work.{fetched}
use Rattle.run_pages.specs.Meant.{served_at}
use Rattle.request_pages.proofs.CloseLemmas.{closed_as, closed_whole, reached, reached_looked}
use Rattle.request_pages.proofs.FirstLemmas.{same_first}
use Rattle.request_pages.proofs.HeadLemmas.{headed_looked}
use Rattle.request_pages.proofs.RequestLemmas.{request_first, request_looked, says_at, says_hidden, says_nowhere}
use Rattle.request_pages.proofs.answering.answer.Goals as goal
use Rattle.request_pages.specs.Ready.{IsProgramIn}
use Rattle.request_port.specs.LeadingLaws.{leads_here, leads_on}
use Rattle.run_world.specs.declared.around.Around.{Around}

pub returns-in_default-clause-closed : goal.returns-in_default-clause-closed
returns-in_default-clause-closed g c = λ origin s stands none.
    closed_whole _ _ s s _ _ _ _ _ _ _ c.not_found.result refl (reached _ _ _ _ _ _ _ s stands) none c.not_found.ensures (λ future. says_nowhere (served_at c.args.port.now.tree.now c.args.incoming.request.now c.args.state.now.around) c.args.incoming.request.now s future c.in_default.is)

pub returns-in_default-clause-leads : goal.returns-in_default-clause-leads
returns-in_default-clause-leads g c = leads_here c.args.port.now

pub returns-then-is_hidden-clause-closed : goal.returns-then-is_hidden-clause-closed
returns-then-is_hidden-clause-closed g c = λ origin s stands none.
    closed_whole _ _ s s _ _ _ _ _ _ _ c.not_found-then-is_hidden.result refl (reached _ _ _ _ _ _ _ s stands) none c.not_found-then-is_hidden.ensures
    (λ future. says_hidden (served_at c.args.port.now.tree.now c.args.incoming.request.now c.args.state.now.around) c.args.incoming.request.now c.in-Some.path s future c.in-Some.is (sym c.is_hidden.ensures ∙ c.if-is_hidden.true))

pub returns-then-is_hidden-clause-leads : goal.returns-then-is_hidden-clause-leads
returns-then-is_hidden-clause-leads g c = leads_here c.args.port.now

pub returns-in-Ok-Absent-clause-closed : goal.returns-in-Ok-Absent-clause-closed
returns-in-Ok-Absent-clause-closed g c = λ origin s stands none.
    let tree = c.args.port.now.tree.now in
    let found = rw c.in-Ok-Absent.field-0-is at (c.in-Ok-Absent.ensures.looked origin _ _ _ _ s stands) in
    closed_whole _ _ s s _ _ _ _ _ _ _ c.not_found-in-Ok-Absent.result found.2 (reached _ _ _ _ _ _ _ s found.1) none c.not_found-in-Ok-Absent.ensures
    (λ future. says_at (served_at tree c.args.incoming.request.now c.args.state.now.around) c.args.incoming.request.now c.in-Some.path absent s future c.in-Some.is (sym c.is_hidden.ensures ∙ c.if-is_hidden.false) (paged_absent tree c.in-Some.path found.0))

pub returns-in-Ok-Plain-clause-closed : goal.returns-in-Ok-Plain-clause-closed
returns-in-Ok-Plain-clause-closed g c = λ origin s stands none.
    let tree = c.args.port.now.tree.now in
    let found = rw c.in-Ok-Plain.field-0-is at (c.in-Ok-Plain.ensures.looked origin _ _ _ _ s stands) in
    closed_whole _ _ s s _ _ _ _ _ _ _ c.file.result found.2 (reached _ _ _ _ _ _ _ s found.1) none c.file.ensures
    (λ future. says_at (served_at tree c.args.incoming.request.now c.args.state.now.around) c.args.incoming.request.now c.in-Some.path (plain c.in-Ok-Plain.text) s future c.in-Some.is (sym c.is_hidden.ensures ∙ c.if-is_hidden.false) (paged_plain tree c.in-Some.path c.in-Ok-Plain.text found.0))

pub returns-in-Ok-Bad-clause-closed : goal.returns-in-Ok-Bad-clause-closed
returns-in-Ok-Bad-clause-closed g c = λ origin s stands none.
    let tree = c.args.port.now.tree.now in
    let path = c.in-Some.path in
    let found = rw c.in-Ok-Bad.field-0-is at (c.in-Ok-Bad.ensures.looked origin _ _ _ _ s stands) in
    closed_whole _ _ s (fetched path s) _ _ _ _ _ _ _ c.page_fault.result found.2 (reached _ _ _ _ _ _ _ (fetched path s) found.1) none c.page_fault.ensures
    (λ future. says_at (served_at tree c.args.incoming.request.now c.args.state.now.around) c.args.incoming.request.now path (bad c.in-Ok-Bad.fault) s future c.in-Some.is (sym c.is_hidden.ensures ∙ c.if-is_hidden.false) (paged_bad tree path c.in-Ok-Bad.fault found.0.0 found.0.1))

pub returns-in-Err-clause-closed : goal.returns-in-Err-clause-closed
returns-in-Err-clause-closed g c = λ origin s stands none.
    let tree = c.args.port.now.tree.now in
    closed_as _ _ _ s _ _ _ _ (λ t h. reached_looked origin _ _ _ _ c.args.state.now.around c.look.new.around _ t c.in-Err.ensures.around h)
    (request_looked c.responses.ensures.grow (served_at tree c.args.incoming.request.now c.args.state.now.around) tree (λ p. refl) c.args.incoming.request.now c.in-Some.path c.in-Some.is (sym c.is_hidden.ensures ∙ c.if-is_hidden.false) s none _ origin _ _ _ _ _ _ _ stands (c.in-Err.ensures.looked origin _ _ _ _ s stands))

pub first_page-requires-clause-ready : goal.first_page-requires-clause-ready
first_page-requires-clause-ready g c = record {
  headed = headed_looked c.args.incoming.close c.args.incoming.shown c.args.state.now.around c.look.new.around c.args.state.now.writer c.in-Ok-Page.ensures.around c.requires.ready.headed;
  in_order = c.in-Ok-Page.ensures.in_order c.args.state.now.scopes c.requires.ready.in_order;
  funded = c.in-Ok-Page.ensures.funded;
}

pub first_page-requires-clause-known : goal.first_page-requires-clause-known
first_page-requires-clause-known g c =
    let (origin, s, stands, none) = c.requires.stands in
    let path = c.in-Some.path in
    let found = rw c.in-Ok-Page.field-0-is at (c.in-Ok-Page.ensures.looked origin _ _ _ _ s stands) in
    let next = found.0.1 in
    record {
      page = next.page;
      made = subst (λ t. IsProgramIn (arc_value c.in-Ok-Page.program) t next.page) (sym c.in-Ok-Page.ensures.tree) (path, next, next.stands);
      origin = origin;
      state = fetched path s;
      stands = found.1;
    }

pub returns-in-Ok-Page-clause-closed : goal.returns-in-Ok-Page-clause-closed
returns-in-Ok-Page-clause-closed g c = λ origin s stands none.
    let tree = c.args.port.now.tree.now in
    let path = c.in-Some.path in
    let served = served_at tree c.args.incoming.request.now c.args.state.now.around in
    let found = rw c.in-Ok-Page.field-0-is at (c.in-Ok-Page.ensures.looked origin _ _ _ _ s stands) in
    let next = found.0.1 in
    let same = c.in-Ok-Page.ensures.tree in
    let first = c.first_page.ensures.closed next.page (subst (λ t. IsProgramIn (arc_value c.in-Ok-Page.program) t next.page) (sym same) (path, next, next.stands)) origin (fetched path s) found.1 in
    request_first served c.args.incoming.request.now path next.page _ s _ _ _ _ c.first_page.result c.in-Some.is (sym c.is_hidden.ensures ∙ c.if-is_hidden.false) (paged_good tree path next.page found.0.0 next.stands) found.2
    (same_first served _ next.page c.args.incoming.request.now.params _ (fetched path s) _ _ _ c.first_page.result
    (ap (λ t. served_at t c.args.incoming.request.now c.look.new.around) same ∙ ap (λ (a : Around). served_at tree c.args.incoming.request.now a) c.in-Ok-Page.ensures.around) first)

pub returns-in-Ok-Page-clause-leads : goal.returns-in-Ok-Page-clause-leads
returns-in-Ok-Page-clause-leads g c = leads_on c.args.port.now c.look.new.port c.first_page.new.port c.in-Ok-Page.ensures.leads c.first_page.ensures.leads
