use Rattle.std.proofs.Common.{◌∙◌, ap}
use Rattle.std.specs.Prelude.{map}
use Rattle.jstl_tags.specs.Elements.{opened_of}
use Rattle.jstl_tags.specs.Standing.{standing_made}
use Rattle.jstl_tags.specs.ReadStanding.{nothing_stands}
use Rattle.jstl_tags.proofs.RowLemmas.{bodiless_is}
use Rattle.jstl_tags.proofs.check.is_bodiless.Goals as goal

pub returns : goal.returns
returns c = λ tree is.
    c.nothing_stands.ensures
    ∙ (ap nothing_stands c.body_in.ensures
    ∙ bodiless_is (opened_of c.args.element.now).tag tree (map standing_made c.args.body.standing.now) (map standing_made c.args.body.inner.now) is.0 is.1)
