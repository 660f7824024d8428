use Rattle.scopes.proofs.TreeLemmas.{order-put}
use Rattle.scopes.proofs.variable_tree.VariableTree.set.Goals as goal

pub invariant_of-self : goal.invariant_of-self
invariant_of-self c = order-put c.put.result c.self.inside.entries.entries c.put.new.entries.entries _ _ c.put.ensures.ok c.put.ensures.err c.self.invariant
