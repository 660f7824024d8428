use Rattle.std.proofs.Common.{◌≡◌}
use Rattle.page_reader.specs.Trees.{trees_of}
use Rattle.unit_source.specs.InPlace.{followed, placed}
use Rattle.unit_source.specs.Placed.{in_place}
use Rattle.unit_source.specs.ReadPlacing.{blanked}
use Rattle.unit_source.proofs.placing.+placing.Given as goal

abbrev pub invariant-placed_nodes-loop-node : goal.invariant-placed_nodes-loop-node
invariant-placed_nodes-loop-node l =
    followed (in_place l.all.items) (placed (blanked l.trims (trees_of l.node-iterator.rest.items))) ≡ placed (blanked l.trims (trees_of l.fn.nodes.items))
