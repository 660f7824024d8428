use Rattle.compiled_pages.specs.Pages.{needs_at}
use Rattle.request_port.proofs.AskedLemmas.{fresh_given, may_fresh}
use Rattle.request_port.proofs.LeadLemmas.{leads_fresh}
use Rattle.request_port.proofs.port.RequestPortAppPortProgram.fresh.Goals as goal
use Rattle.request_port.specs.LeadingLaws.{leads_here}

pub fresh-requires : goal.fresh-requires
fresh-requires g c =
    let w = c.args.self.now in
    record { may = may_fresh (g.Q.Port.opening w.port.now) (g.Q.Port.pass w.port.now) (g.Q.Port.seen w.port.now) w.request w.tree.now c.requires.none c.requires.room }

pub returns-clause-given : goal.returns-clause-given
returns-clause-given g c =
    let w = c.args.self.now in
    rw (c.fresh.ensures.same.0, c.fresh.ensures.same.1)
    (fresh_given needs_at (g.Q.Port.opening w.port.now) (g.Q.Port.pass w.port.now) (g.Q.Port.seen w.port.now) (g.Q.Port.seen c.fresh.new.self) w.request w.tree.now c.fresh.result c.requires.room c.fresh.ensures.call c.fresh.ensures.named)

pub returns-then-self-clause-leads : goal.returns-then-self-clause-leads
returns-then-self-clause-leads g c = leads_here c.args.self.now

pub returns-clause-leads : goal.returns-clause-leads
returns-clause-leads g c =
    let w = c.args.self.now in
    leads_fresh g.Q.Port.pass g.Q.Port.opening g.Q.Port.home g.Q.Port.seen w c.fresh.new.self c.fresh.result c.fresh.ensures.same c.fresh.ensures.call c.if-self.false
