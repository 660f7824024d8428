use Rattle.std.proofs.Common.{◌≡◌, drop}
use Rattle.act_reader.specs.Contents.{before}
use Rattle.unit_meaning.specs.Shape.{children_of}
use Rattle.unit_nodes.specs.Views.{nodes_of}
use Rattle.act_reader.proofs.reading.+reading.Given as goal

abbrev pub invariant-children_in-loop-node : goal.invariant-children_in-loop-node
invariant-children_in-loop-node l = before l.children (children_of (nodes_of (drop l.node-index l.nodes))) ≡ children_of (nodes_of l.nodes)
