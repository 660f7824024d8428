use Rattle.std.proofs.Common.{◌≡◌, drop}
use Rattle.unit_source.specs.Placed.{in_place}
use Rattle.unit_words.specs.Build.{built}
use Rattle.unit_nodes.specs.Nodes.{joined}
use Rattle.unit_nodes.specs.Views.{nodes_of}
use Rattle.unit_build.proofs.nodes.+building.Given as goal

abbrev pub invariant-add_nodes-loop-node : goal.invariant-add_nodes-loop-node
invariant-add_nodes-loop-node l =
    joined (nodes_of l.made.items) (built l.directives (in_place (drop l.node-index l.nodes))) ≡ joined (nodes_of l.fn.made.items) (built l.directives (in_place l.nodes))
