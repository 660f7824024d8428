use Rattle.std.proofs.Common.{[], ◌∷◌, map}
use Rattle.jstl_tags.specs.Check.{child_faults}
use Rattle.jstl_tags.specs.Hosts.{host_made}
use Rattle.unit_judges.proofs.element.refused_faults.Goals as goal

pub returns : goal.returns
returns c = c.and.ensures.of (c.args.fault ∷ []) (child_faults (map host_made c.args.hosts.now)) c.one.ensures c.child_faults.ensures
