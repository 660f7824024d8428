use Rattle.std.proofs.Common.{ap, refl, sym, ◌∙◌}
use Rattle.std.specs.Arc.{arc_value}
use Rattle.compiled_pages.proofs.PageLemmas.{paged_absent, paged_bad, paged_good, paged_plain}
use Rattle.page_meaning.specs.Context.{absent, bad, plain}
use Rattle.page_meaning.specs.Respond.{with_no_visits}
use Rattle.page_meaning.specs.Work.{fetched}
use Rattle.request_pages.proofs.CloseLemmas.{closed_as, closed_fetched, closed_looked, closed_short, closed_whole, path_same, reached, reached_looked, says_found, says_none}
use Rattle.request_pages.proofs.PlayedLemmas.{settings_same}
use Rattle.request_pages.proofs.instead.find_instead.Goals as goal
use Rattle.request_port.specs.LeadingLaws.{leads_here}
use Rattle.run_world.specs.Seats.{raise_of}

pub returns-in-Err-clause-leads : goal.returns-in-Err-clause-leads
returns-in-Err-clause-leads g c = leads_here c.args.port.now

pub returns-in-Ok-None-clause-leads : goal.returns-in-Ok-None-clause-leads
returns-in-Ok-None-clause-leads g c = leads_here c.args.port.now

pub returns-in-Err-clause-found : goal.returns-in-Err-clause-found
returns-in-Err-clause-found g c = λ page known served pages params origin scopes held taken faults s stands none.
    record { so = closed_short c.responses.ensures.grow served page params (raise_of c.args.failure.now.raise) _ s _ _ _ _ refl (reached _ _ _ _ _ _ _ s stands) none }

pub returns-in-Ok-None-clause-found : goal.returns-in-Ok-None-clause-found
returns-in-Ok-None-clause-found g c = λ page known served pages params origin scopes held taken faults s stands none.
    let (path, made, is) = known in
    let tree = c.args.port.now.tree.now in
    let program = arc_value c.args.failure.now.program in
    let named = c.in-Ok-None.ensures page (ap (λ p. p.path) c.deref.ensures ∙ path_same program tree path page made is) (ap (λ p. p.settings) c.deref.ensures ∙ settings_same program tree path page made is) in
    record { so = closed_whole _ _ s s _ _ _ _ _ _ _ c.run_fault.result refl (reached _ _ _ _ _ _ _ s stands) none c.run_fault.ensures (λ future. says_none served page params (raise_of c.args.failure.now.raise) s future (sym named ∙ c.in-Ok-None.field-0-is)) }

pub returns-in-Err-look-clause-found : goal.returns-in-Err-look-clause-found
returns-in-Err-look-clause-found g c = λ page known served pages params origin scopes held taken faults s stands none.
    let (path, made, is) = known in
    let tree = c.args.port.now.tree.now in
    let program = arc_value c.args.failure.now.program in
    let named = c.in-Ok-Some.ensures page (ap (λ p. p.path) c.deref.ensures ∙ path_same program tree path page made is) (ap (λ p. p.settings) c.deref.ensures ∙ settings_same program tree path page made is) in
    record {
      so = closed_as _ _ _ s _ _ _ _ (λ t h. reached_looked origin _ _ _ _ c.args.around.now c.look.new.around _ t c.in-Err-look.ensures.around h)
          (closed_looked c.responses.ensures.grow served tree pages page params (raise_of c.args.failure.now.raise) c.in-Ok-Some.path (sym named ∙ c.in-Ok-Some.field-0-is) s none _ origin _ _ _ _ _ _ _ stands (c.in-Err-look.ensures.looked origin _ _ _ _ s stands));
    }

pub returns-in-Ok-Absent-clause-found : goal.returns-in-Ok-Absent-clause-found
returns-in-Ok-Absent-clause-found g c = λ page known served pages params origin scopes held taken faults s stands none.
    let (path, made, is) = known in
    let tree = c.args.port.now.tree.now in
    let program = arc_value c.args.failure.now.program in
    let named = c.in-Ok-Some.ensures page (ap (λ p. p.path) c.deref.ensures ∙ path_same program tree path page made is) (ap (λ p. p.settings) c.deref.ensures ∙ settings_same program tree path page made is) in
    let found = rw c.in-Ok-Absent.field-0-is at (c.in-Ok-Absent.ensures.looked origin _ _ _ _ s stands) in
    record {
      so = closed_whole _ _ s s _ _ _ _ _ _ _ c.run_fault-in-Ok-Absent.result found.2 (reached _ _ _ _ _ _ _ s found.1) none c.run_fault-in-Ok-Absent.ensures
          (λ future. says_found served page params (raise_of c.args.failure.now.raise) c.in-Ok-Some.path absent s future (sym named ∙ c.in-Ok-Some.field-0-is) (pages c.in-Ok-Some.path ∙ paged_absent tree c.in-Ok-Some.path found.0));
    }

pub returns-in-Ok-Bad-clause-found : goal.returns-in-Ok-Bad-clause-found
returns-in-Ok-Bad-clause-found g c = λ page known served pages params origin scopes held taken faults s stands none.
    let (path, made, is) = known in
    let tree = c.args.port.now.tree.now in
    let program = arc_value c.args.failure.now.program in
    let named = c.in-Ok-Some.ensures page (ap (λ p. p.path) c.deref.ensures ∙ path_same program tree path page made is) (ap (λ p. p.settings) c.deref.ensures ∙ settings_same program tree path page made is) in
    let found = rw c.in-Ok-Bad.field-0-is at (c.in-Ok-Bad.ensures.looked origin _ _ _ _ s stands) in
    record {
      so = closed_whole _ _ s (fetched c.in-Ok-Some.path s) _ _ _ _ _ _ _ c.run_fault-in-Ok-Bad.result found.2 (reached _ _ _ _ _ _ _ (fetched c.in-Ok-Some.path s) found.1) none c.run_fault-in-Ok-Bad.ensures
          (λ future. says_found served page params (raise_of c.args.failure.now.raise) c.in-Ok-Some.path (bad c.in-Ok-Bad.fault) s future (sym named ∙ c.in-Ok-Some.field-0-is) (pages c.in-Ok-Some.path ∙ paged_bad tree c.in-Ok-Some.path c.in-Ok-Bad.fault found.0.0 found.0.1));
    }

pub returns-in-Ok-Plain-clause-found : goal.returns-in-Ok-Plain-clause-found
returns-in-Ok-Plain-clause-found g c = λ page known served pages params origin scopes held taken faults s stands none.
    let (path, made, is) = known in
    let tree = c.args.port.now.tree.now in
    let program = arc_value c.args.failure.now.program in
    let named = c.in-Ok-Some.ensures page (ap (λ p. p.path) c.deref.ensures ∙ path_same program tree path page made is) (ap (λ p. p.settings) c.deref.ensures ∙ settings_same program tree path page made is) in
    let found = rw c.in-Ok-Plain.field-0-is at (c.in-Ok-Plain.ensures.looked origin _ _ _ _ s stands) in
    let on = reached _ _ _ _ _ _ _ s found.1 in
    record {
      so = closed_whole _ _ s (with_no_visits s) _ _ _ _ _ _ _ c.file.result found.2 (record { scopes_are = on.scopes_are; asked = on.asked; ordered = on.ordered; writer = on.writer; id = on.id; fresh = on.fresh }) none c.file.ensures
          (λ future. says_found served page params (raise_of c.args.failure.now.raise) c.in-Ok-Some.path (plain c.in-Ok-Plain.text) s future (sym named ∙ c.in-Ok-Some.field-0-is) (pages c.in-Ok-Some.path ∙ paged_plain tree c.in-Ok-Some.path c.in-Ok-Plain.text found.0));
    }

pub returns-in_default-clause-found : goal.returns-in_default-clause-found
returns-in_default-clause-found g c = λ page known served pages params origin scopes held taken faults s stands none.
    let (path, made, is) = known in
    let tree = c.args.port.now.tree.now in
    let program = arc_value c.args.failure.now.program in
    let named = c.in-Ok-Some.ensures page (ap (λ p. p.path) c.deref.ensures ∙ path_same program tree path page made is) (ap (λ p. p.settings) c.deref.ensures ∙ settings_same program tree path page made is) in
    let found = rw c.in-Ok-Page.field-0-is at (c.in-Ok-Page.ensures.looked origin _ _ _ _ s stands) in
    let next = found.0.1 in
    record {
      so = closed_fetched c.responses.ensures.grow served tree page params (raise_of c.args.failure.now.raise) c.in-Ok-Some.path next.page _ s _ _ _ _ (sym named ∙ c.in-Ok-Some.field-0-is) (pages c.in-Ok-Some.path ∙ paged_good tree c.in-Ok-Some.path next.page found.0.0 next.stands) found.2
          (reached _ _ _ _ _ _ _ (fetched c.in-Ok-Some.path s) found.1) none;
    }

pub returns-clause-found : goal.returns-clause-found
returns-clause-found g c = λ page known served pages params origin scopes held taken faults s stands none.
    let (path, made, is) = known in
    let tree = c.args.port.now.tree.now in
    let program = arc_value c.args.failure.now.program in
    let named = c.in-Ok-Some.ensures page (ap (λ p. p.path) c.deref.ensures ∙ path_same program tree path page made is) (ap (λ p. p.settings) c.deref.ensures ∙ settings_same program tree path page made is) in
    let found = rw c.in-Ok-Page.field-0-is at (c.in-Ok-Page.ensures.looked origin _ _ _ _ s stands) in
    record { so = (record { path = c.in-Ok-Some.path; named = sym named ∙ c.in-Ok-Some.field-0-is; there = found.0.0; made = found.0.1; stood = found.1 }, c.in-Ok.ensures, found.2) }
