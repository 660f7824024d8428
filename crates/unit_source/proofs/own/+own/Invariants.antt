use Rattle.std.proofs.Common.{◌≡◌, ◌++◌}
use Rattle.page_reader.specs.Trees.{trees_of}
use Rattle.unit_source.specs.First.{directives_in}
use Rattle.unit_source.proofs.own.+own.Given as goal

abbrev pub invariant-add_directives-loop-node : goal.invariant-add_directives-loop-node
invariant-add_directives-loop-node l = l.found ++ directives_in (trees_of l.node-iterator.rest.items) ≡ l.fn.found ++ directives_in (trees_of l.fn.nodes.items)
