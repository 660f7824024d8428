use Rattle.std.proofs.Common.{◌≡◌, drop}
use Rattle.page_directives.specs.Rows.{words}
use Rattle.jstl_tags.specs.Check.{lacks}
use Rattle.jstl_tags.specs.Given.{names_made}
use Rattle.jstl_tags.proofs.given.lacks.Given as goal

abbrev pub invariant-loop-name : goal.invariant-loop-name
invariant-loop-name l = lacks (words (drop l.name-index l.wanted)) (names_made l.given) ≡ lacks (words l.wanted) (names_made l.given)
