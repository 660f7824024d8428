use Rattle.site_state.specs.Parts.{parts_of}
use Rattle.site_core.proofs.Conditions.{opened_apart}
use Rattle.site_core.proofs.Next.{starts}
use Rattle.site_core.proofs.site.Site.resume.Goals as goal

pub start-requires : goal.start-requires
start-requires g c = opened_apart c.args.opening c.requires

pub invariant_of-result : goal.invariant_of-result
invariant_of-result g c =
    starts g.P.Compiled.needs g.P.Compiled.made c.args.opening c.in_ok-history.history.items (parts_of c.in_ok-held.held) c.in_ok-history.history.room c.requires c.know_limit.ensures c.in_ok-history.ensures.items
    c.in_ok-held.ensures.state c.in_ok-held.ensures.kept c.in_ok-held.ensures.there
