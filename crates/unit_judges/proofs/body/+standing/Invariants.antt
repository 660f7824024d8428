use Rattle.std.proofs.Common.{◌≡◌, ◌++◌, map, drop}
use Rattle.jstl_tags.specs.Standing.{standing_in, standing_made}
use Rattle.unit_source.specs.InPlace.{flat}
use Rattle.unit_source.specs.Placed.{in_place}
use Rattle.unit_judges.proofs.body.+standing.Given as goal

abbrev pub invariant-push_standing-loop-node : goal.invariant-push_standing-loop-node
invariant-push_standing-loop-node l =
    map standing_made l.found.items ++ standing_in (flat (in_place (drop l.node-index l.nodes))) ≡ map standing_made l.fn.found.items ++ standing_in (flat (in_place l.nodes))
