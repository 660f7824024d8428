use Rattle.std.proofs.Common.{rules, ◌≡◌, ◌∙◌, sym, ap, subst}
use Rattle.std.proofs.lemmas.Fn.{filter_same}
use Rattle.std.proofs.lemmas.List.Kept.{AllPairs-filter}
use Rattle.pg_text.specs.Order.{AreRising}
use Rattle.pg_text.proofs.ItemLemmas.{IsBelow}
use Rattle.dep_graph.specs.Deps.{IsIndexOf, name_of, path_of, without_paths}
use Rattle.dep_graph.proofs.TogetherLemmas.{unindexed_is, unindexed_order}
use Rattle.dep_graph.proofs.deps.Deps.remove_together.Goals as goal

pub invariant_of-self : goal.invariant_of-self
invariant_of-self c =
    let paths = c.args.paths.now in
    let dependents = c.self.inside.dependents.items in
    let index = c.self.inside.index.items in
    let left : c.retain.new.self.items ≡ without_paths paths dependents = filter_same _ _ _ (λ x b f' k. search rules) _ _ c.retain.ensures.filtered in (
      subst (AreRising path_of) (sym left) (AllPairs-filter (IsBelow path_of) _ dependents c.self.invariant.0),
      subst (AreRising name_of) (sym c.remove_users.ensures) (unindexed_order paths index c.self.invariant.1),
      subst (λ l. IsIndexOf l c.remove_users.new.index.items) (sym left)
          (subst (λ i. IsIndexOf (without_paths paths dependents) i) (sym c.remove_users.ensures) (unindexed_is paths dependents index c.self.invariant.1 c.self.invariant.2)),
    )

pub returns : goal.returns
returns c = filter_same _ _ _ (λ x b f' k. search rules) _ _ c.retain.ensures.filtered ∙ ap (without_paths c.args.paths.now) c.self.view_is
