use Rattle.std.proofs.Common.{◌≡◌, drop}
use Rattle.jstl_tags.specs.Check.{lacks}
use Rattle.jstl_tags.specs.Given.{names_made}
use Rattle.unit_judges.proofs.calls.lacks.Given as goal

abbrev pub invariant-loop-name : goal.invariant-loop-name
invariant-loop-name l = lacks (drop l.name-index l.names) (names_made l.given) ≡ lacks l.names (names_made l.given)
