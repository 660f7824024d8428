use Rattle.std.proofs.Common.{◌≡◌, ◌++◌, drop}
use Rattle.unit_source.specs.InPlace.{all_directives}
use Rattle.unit_source.specs.Placed.{in_place}
use Rattle.unit_source.proofs.reading_order.+order.Given as goal

abbrev pub invariant-add_directives-loop-node : goal.invariant-add_directives-loop-node
invariant-add_directives-loop-node l = l.all.items ++ all_directives (in_place (drop l.node-index l.nodes)) ≡ l.fn.all.items ++ all_directives (in_place l.nodes)
