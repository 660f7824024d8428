use Rattle.std.proofs.Common.{◌≡◌, ap, subst, ◌∙◌}
use Rattle.site_words.specs.Fits.{fits}
use Rattle.site_words.specs.State.{State, after}
use Rattle.site_core.specs.Lived.{Lived}
use Rattle.site_core.proofs.site.Site.fits.Goals as goal

pub returns : goal.returns
returns g c =
    subst (λ (v : Lived). c.fits.result ≡ fits v.opening (after g.P.Compiled.needs v.opening v.history) c.args.pass c.args.op.now) c.self.view_is
    (c.fits.ensures c.self.inside.history.items ∙ ap (λ (s : State). fits c.self.inside.opening s c.args.pass c.args.op.now) c.self.invariant.state)
