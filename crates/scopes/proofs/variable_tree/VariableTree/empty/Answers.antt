use Rattle.pg_value.proofs.Order.{AreInOrder-none}
use Rattle.scopes.proofs.variable_tree.VariableTree.empty.Goals as goal

pub invariant_of-result : goal.invariant_of-result
invariant_of-result c = rw c.new.ensures.empty AreInOrder-none
