use Rattle.compiled_pages.specs.Pages.{needs_at}
use Rattle.request_port.proofs.AskedLemmas.{app_told, may_app}
use Rattle.request_port.proofs.LeadLemmas.{leads_app}
use Rattle.request_port.proofs.port.RequestPortAppPortProgram.app.Goals as goal
use Rattle.request_port.specs.LeadingLaws.{leads_here}

pub app-requires : goal.app-requires
app-requires g c =
    let w = c.args.self.now in
    record { may = may_app (g.Q.Port.opening w.port.now) (g.Q.Port.pass w.port.now) (g.Q.Port.seen w.port.now) w.request w.tree.now c.args.step c.requires.fits c.requires.room }

pub returns-clause-told : goal.returns-clause-told
returns-clause-told g c =
    let w = c.args.self.now in
    rw (c.app.ensures.same.0, c.app.ensures.same.1)
    (app_told needs_at (g.Q.Port.opening w.port.now) (g.Q.Port.pass w.port.now) (g.Q.Port.seen w.port.now) (g.Q.Port.seen c.app.new.self) w.request w.tree.now c.args.step c.app.result c.law.ensures.sound c.requires.room c.app.ensures.call)

pub returns-then-self-clause-leads : goal.returns-then-self-clause-leads
returns-then-self-clause-leads g c = leads_here c.args.self.now

pub returns-clause-leads : goal.returns-clause-leads
returns-clause-leads g c =
    let w = c.args.self.now in
    leads_app g.Q.Port.pass g.Q.Port.opening g.Q.Port.home g.Q.Port.seen w c.app.new.self c.args.step c.app.result c.app.ensures.same c.app.ensures.call c.if-self.false
