use Rattle.std.proofs.Common.{◌<◌, ◌^◌, length, subst}
use Rattle.site_state.specs.Parts.{parts_of}
use Rattle.site_core.specs.Lived.{Lived}
use Rattle.site_core.proofs.Next.{short_history}
use Rattle.site_core.proofs.site.Site.law.Goals as goal

pub returns-clause-short : goal.returns-clause-short
returns-clause-short g c =
    subst (λ (v : Lived). length v.history < 2 ^ 63) c.self.view_is
    (short_history g.P.Compiled.needs g.P.Compiled.made c.self.inside.opening c.self.inside.history.items (parts_of c.self.inside.held) c.self.inside.history.room c.self.invariant)
