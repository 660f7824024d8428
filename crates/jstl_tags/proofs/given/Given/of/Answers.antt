use Rattle.std.proofs.Common.{◌∙◌}
use Rattle.std.specs.Prelude.{map}
use Rattle.jstl_tags.specs.Elements.{opened_of}
use Rattle.jstl_tags.specs.Standing.{standing_made}
use Rattle.jstl_tags.proofs.RowLemmas.{given_is}
use Rattle.jstl_tags.proofs.given.Given.of.Goals as goal

pub returns-clause-names : goal.returns-clause-names
returns-clause-names c = λ tree is. c.given_to.ensures.names ∙ given_is (opened_of c.args.element.now).tag tree (map standing_made c.args.body.standing.now) is.0
