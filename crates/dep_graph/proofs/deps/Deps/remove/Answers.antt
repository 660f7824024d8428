use Rattle.std.proofs.Common.{◌≡◌, Ok, Err, Some, sym, ap, subst, ◌∙◌}
use Rattle.std.proofs.lemmas.List.Kept.{AllPairs-filter}
use Rattle.pg_text.specs.Names.{has_name}
use Rattle.pg_text.specs.Order.{AreRising, IsPlace, item_at, without_item}
use Rattle.pg_text.proofs.ItemLemmas.{IsBelow}
use Rattle.pg_text.proofs.PlaceLemmas.{item_found, without_absent, without_found}
use Rattle.dep_graph.specs.Deps.{all_unlisted, path_of, users_of}
use Rattle.dep_graph.proofs.IndexLemmas.{all_unlisted_is, retold}
use Rattle.dep_graph.proofs.UserLemmas.{dropped, removed}
use Rattle.dep_graph.proofs.deps.Deps.remove.Goals as goal

pub invariant_of-self : goal.invariant_of-self
invariant_of-self c =
    let path = c.args.path.now in
    let dependents = c.self.inside.dependents.items in
    let index = c.self.inside.index.items in
    let dependent = c.remove-dependent.result in
    let place = subst (λ items. IsPlace path_of path items (Ok c.in-Ok.at)) c.deref.ensures.value c.in-Ok.ensures in
    let left : c.remove-dependent.new.self.items ≡ without_item path_of path dependents = c.remove-dependent.ensures.items ∙ without_found path_of path dependents c.in-Ok.at place in
    let found : item_at path_of path dependents ≡ Some dependent = item_found path_of path dependents c.in-Ok.at dependent place c.remove-dependent.ensures.value in (
      subst (AreRising path_of) (sym left) (AllPairs-filter (IsBelow path_of) _ dependents c.self.invariant.0),
      c.remove_all.ensures.order,
      retold (all_unlisted path dependent.names index) c.remove_all.new.index.items (λ name. dropped (has_name name dependent.names) path (users_of name dependents)) (λ name. users_of name c.remove-dependent.new.self.items)
          (all_unlisted_is path dependent.names index (λ name. users_of name dependents) c.self.invariant.2)
          (c.remove_all.ensures.index ∙ ap (λ names. all_unlisted path names index) c.as_slice.ensures.paths)
          (λ name. removed path name dependent dependents c.self.invariant.0 found ∙ ap (users_of name) (sym left)),
    )

pub returns-in-Ok : goal.returns-in-Ok
returns-in-Ok c =
    let place = subst (λ items. IsPlace path_of c.args.path.now items (Ok c.in-Ok.at)) c.deref.ensures.value c.in-Ok.ensures in
    c.remove-dependent.ensures.items ∙ without_found path_of c.args.path.now c.self.inside.dependents.items c.in-Ok.at place ∙ ap (without_item path_of c.args.path.now) c.self.view_is

pub returns-in_default : goal.returns-in_default
returns-in_default c =
    let place = subst (λ items. IsPlace path_of c.args.path.now items (Err c.in_default.field-0)) c.deref.ensures.value c.in_default.ensures in
    subst (λ dependents. dependents ≡ without_item path_of c.args.path.now dependents) c.self.view_is (without_absent path_of c.args.path.now c.self.inside.dependents.items c.in_default.field-0 place)
