use Rattle.std.proofs.Common.{ap, subst, sym, ◌∙◌}
use Rattle.pg_value.specs.Attrs.{AreInOrder, without_entry}
use Rattle.pg_value.proofs.Order.{AreInOrder-without_entry}
use Rattle.scopes.specs.ReadTree.{in_tree}
use Rattle.scopes.proofs.TreeLemmas.{in_tree-remove}
use Rattle.scopes.proofs.variable_tree.VariableTree.remove.Goals as goal

pub invariant_of-self : goal.invariant_of-self
invariant_of-self c =
    subst AreInOrder (sym (ap in_tree c.remove.ensures.entries ∙ in_tree-remove c.args.name.now c.self.inside.entries.entries c.self.invariant))
    (AreInOrder-without_entry _ c.args.name.now c.self.invariant)

pub returns : goal.returns
returns c =
    ap in_tree c.remove.ensures.entries ∙ in_tree-remove c.args.name.now c.self.inside.entries.entries c.self.invariant
    ∙ ap (λ es. without_entry es c.args.name.now) c.self.view_is
