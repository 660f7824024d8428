use Rattle.std.proofs.Common.{◌≡◌, map}
use Rattle.unit_source.specs.Placed.{in_place}
use Rattle.unit_source.specs.ReadSplice.{found_of}
use Rattle.unit_source.specs.ReadSteps.{filled, filled_behind}
use Rattle.unit_source.proofs.fill.+filling.Given as goal

abbrev pub invariant-fill_nodes-loop-node : goal.invariant-fill_nodes-loop-node
invariant-fill_nodes-loop-node l =
    filled_behind (in_place l.all.items) (filled (in_place l.node-iterator.rest.items) (map found_of l.found.items)) ≡ filled (in_place l.fn.nodes.items) (map found_of l.fn.found.items)
