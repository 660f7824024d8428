use Rattle.std.proofs.Common.{◌≡◌, map, ap, rules, ◌∙◌}
use Rattle.pg_value.specs.Attrs.{of_entries, with_entries}
use Rattle.pg_value.specs.Value.{entry_of}
use Rattle.scopes.proofs.TreeLemmas.{more_in_tree, of_entries_in_order}
use Rattle.scopes.proofs.variable_tree.VariableTree.of.Goals as goal

pub loop-name-init : goal.loop-name-init
loop-name-init c =
    let all : c.into_iter-name-iterator.result.rest.items ≡ c.into_vec-variables.result.items = search rules in
    ap (λ t. with_entries t (map entry_of c.into_iter-name-iterator.result.rest.items)) c.empty-tree.ensures
    ∙ ap (λ es. of_entries (map entry_of es)) all
    ∙ ap of_entries c.into_vec-variables.ensures.entries ∙ of_entries_in_order c.args.variables c.into_vec-variables.ensures.order

pub loop-name-preserved : goal.loop-name-preserved
loop-name-preserved c =
    more_in_tree c.loop-name.tree c.set.new.self c.loop-name.name-iterator.rest.items c.next.new.self.rest.items (c.in-Some.name, c.in-Some.value) _ (search rules)
    c.in_ok-set.ensures.ok c.loop-name.invariant
