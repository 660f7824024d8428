use Rattle.std.proofs.Common.{◌≡◌, ◌++◌, map}
use Rattle.pg_value.specs.Value.{entry_of}
use Rattle.scopes.specs.ReadTree.{in_tree}
use Rattle.scopes.proofs.variable_tree.listed.Given as goal

abbrev pub invariant-loop-name : goal.invariant-loop-name
invariant-loop-name l = map entry_of l.listed.items ++ in_tree l.name-iterator ≡ in_tree l.entries.entries
