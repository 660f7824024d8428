use Rattle.std.proofs.Common.{ap, ◌∙◌}
use Rattle.scopes.specs.ReadTree.{in_tree}
use Rattle.scopes.proofs.TreeLemmas.{in_tree-insert}
use Rattle.scopes.proofs.variable_tree.put.Goals as goal

pub returns-clause-ok : goal.returns-clause-ok
returns-clause-ok c = ap in_tree c.in_ok-insert.ensures.entries ∙ in_tree-insert c.args.name c.args.value c.args.entries.now.entries
