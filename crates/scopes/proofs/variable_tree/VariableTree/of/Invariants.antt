use Rattle.std.proofs.Common.{◌≡◌, map}
use Rattle.pg_value.specs.Attrs.{with_entries}
use Rattle.pg_value.specs.Value.{entry_of}
use Rattle.scopes.proofs.variable_tree.VariableTree.of.Given as goal

abbrev pub invariant-loop-name : goal.invariant-loop-name
invariant-loop-name l = with_entries l.tree (map entry_of l.name-iterator.rest.items) ≡ l.fn.variables
