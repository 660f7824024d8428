use Rattle.std.proofs.Common.{◌∙◌, ◌<◌, ◌+◌, ◌++◌, length, map, drop, ap, arith}
use Rattle.jstl_tags.specs.Content.{inner}
use Rattle.jstl_tags.specs.Standing.{standing_in, standing_made}
use Rattle.unit_source.specs.InPlace.{flat}
use Rattle.unit_source.specs.Placed.{in_place}
use Rattle.unit_judges.proofs.PlacedLemmas.{next_node, one_inner}
use Rattle.unit_judges.proofs.body.+inner.Goals as goal

pub push_inner-loop-node-preserved : goal.push_inner-loop-node-preserved
push_inner-loop-node-preserved t c =
    let nodes = c.args.nodes.now in
    let i = c.loop-node.node-index in
    let node = c.node-item.result in
    let before = map standing_made c.loop-node.found.items in
    let within : i < length nodes = grind arith in
    next_node (λ ns. standing_in (inner (flat (in_place ns)))) nodes i node before (map standing_made c.push_inner_node.new.found.items) _ within c.node-item.is c.loop-node.invariant
    (ap (λ found. found ++ standing_in (inner (flat (in_place (drop (i + 1) nodes))))) c.in_ok-push_inner_node.ensures ∙ one_inner before node (drop (i + 1) nodes))
