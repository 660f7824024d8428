use Rattle.std.proofs.Common.{◌≡◌, drop}
use Rattle.std.specs.Prelude.{map}
use Rattle.jstl_tags.specs.ReadSorts.{is_of}
use Rattle.jstl_tags.specs.Standing.{standing_made}
use Rattle.jstl_tags.specs.ReadStanding.{two_stand}
use Rattle.jstl_tags.proofs.content.two_stand.Given as goal

abbrev pub invariant-loop-i : goal.invariant-loop-i
invariant-loop-i l = two_stand (is_of l.sort) (map standing_made (drop l.i l.standing)) ≡ two_stand (is_of l.sort) (map standing_made l.standing)
