use Rattle.std.proofs.Common.{◌≡◌, drop}
use Rattle.std.specs.Prelude.{map}
use Rattle.jstl_tags.specs.ReadSorts.{is_of}
use Rattle.jstl_tags.specs.Standing.{standing_made}
use Rattle.jstl_tags.specs.ReadStanding.{other_stands}
use Rattle.jstl_tags.proofs.content.other_stands.Given as goal

abbrev pub invariant-loop-thing : goal.invariant-loop-thing
invariant-loop-thing l = other_stands (is_of l.sort) (map standing_made (drop l.thing-index l.standing)) ≡ other_stands (is_of l.sort) (map standing_made l.standing)
