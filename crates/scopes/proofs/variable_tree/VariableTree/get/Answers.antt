use Rattle.std.proofs.Common.{ap, ◌∙◌}
use Rattle.std.specs.Prelude.{option_map}
use Rattle.pg_value.specs.Attrs.{entry_at}
use Rattle.pg_value.specs.Value.{datum_of}
use Rattle.scopes.proofs.TreeLemmas.{in_tree-lookup, lent}
use Rattle.scopes.proofs.variable_tree.VariableTree.get.Goals as goal

pub returns : goal.returns
returns c =
    lent c.get.result ∙ ap (option_map datum_of) c.get.ensures.value ∙ in_tree-lookup c.args.name.now c.self.inside.entries.entries
    ∙ ap (entry_at c.args.name.now) c.self.view_is
