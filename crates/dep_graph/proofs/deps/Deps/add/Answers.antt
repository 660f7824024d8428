use Rattle.std.proofs.Common.{◌≡◌, List, ℕ, filter, not, refl, sym, ap, subst, ◌∙◌}
use Rattle.pg_text.specs.Names.{has_name}
use Rattle.pg_text.specs.Order.{AreRising, IsPlace, item_at, with_item}
use Rattle.pg_text.proofs.ItemLemmas.{order_with}
use Rattle.dep_graph.specs.declared.entries.Dependent.{Dependent}
use Rattle.dep_graph.specs.Deps.{IsNew, all_indexed, all_unlisted, names_at, path_of, users_of}
use Rattle.dep_graph.proofs.IndexLemmas.{all_indexed_is, all_unlisted_is, retold}
use Rattle.dep_graph.proofs.UserLemmas.{added, dropped, fresh_new, replaced}
use Rattle.dep_graph.proofs.deps.Deps.add.Goals as goal

pub invariant_of-self-in_err-add_all : goal.invariant_of-self-in_err-add_all
invariant_of-self-in_err-add_all c =
    let path = c.args.path.now in
    let dependents = c.self.inside.dependents.items in
    let index = c.self.inside.index.items in
    let before = c.in_ok-before.before in
    let same = c.in_ok-try_reserve.ensures.items in
    let known : before ≡ names_at (item_at path_of path dependents) = c.in_ok-before.ensures ∙ ap (λ (l : List Dependent). names_at (item_at path_of path l)) c.deref.ensures.value in
    let fresh : c.deref-2.result.now ≡ filter (λ n. not (has_name n before)) c.args.names.now = c.deref-2.ensures.value ∙ c.in_ok-fresh.ensures in
    let new : IsNew path c.deref-2.result.now (λ name. users_of name dependents) =
    subst (λ names. IsNew path names (λ name. users_of name dependents)) (sym fresh) (fresh_new path dependents c.self.invariant.0 c.args.names.now before known) in (
      subst (AreRising path_of) (sym same) c.self.invariant.0,
      c.in_err-add_all.ensures.order,
      retold _ _ (λ name. users_of name dependents) (λ name. users_of name c.try_reserve.new.self.items) (c.in_err-add_all.ensures.err (λ name. users_of name dependents) c.self.invariant.2 new) refl (λ name. ap (users_of name) (sym same)),
    )

pub invariant_of-self-2 : goal.invariant_of-self-2
invariant_of-self-2 c =
    let path = c.args.path.now in
    let dependents = c.self.inside.dependents.items in
    let index = c.self.inside.index.items in
    let before = c.in_ok-before.before in
    let same = c.in_ok-try_reserve.ensures.items in
    let dependent : Dependent = record { path = path; names = c.args.names.now } in
    let known : before ≡ names_at (item_at path_of path dependents) = c.in_ok-before.ensures ∙ ap (λ (l : List Dependent). names_at (item_at path_of path l)) c.deref.ensures.value in
    let fresh : List (List ℕ) = filter (λ n. not (has_name n before)) c.args.names.now in
    let stale : List (List ℕ) = filter (λ n. not (has_name n c.args.names.now)) before in
    let added_is : c.add_all.new.index.items ≡ all_indexed path fresh index = c.in_ok-add_all.ensures.ok ∙ ap (λ names. all_indexed path names index) (c.deref-2.ensures.value ∙ c.in_ok-fresh.ensures) in
    let left_is : c.remove_all.new.index.items ≡ all_unlisted path stale (all_indexed path fresh index) =
    c.remove_all.ensures.index ∙ ap (λ names. all_unlisted path names c.add_all.new.index.items) (c.deref-3.ensures.value ∙ c.in_ok-stale.ensures) ∙ ap (all_unlisted path stale) added_is in
    let put_is : c.put.new.dependents.items ≡ with_item path_of dependent dependents =
    c.put.ensures ∙ (λ i. with_item path_of (record { path = c.in_ok-copy.ensures i; names = c.in_ok-copy-2.ensures i }) (same i)) in
    let place : IsPlace path_of path dependents c.place_of-place.result = subst (λ l. IsPlace path_of path l c.place_of-place.result) (c.deref-4.ensures.value ∙ same) c.place_of-place.ensures in (
      subst (AreRising path_of) (sym put_is) (order_with path_of dependent dependents c.self.invariant.0),
      c.remove_all.ensures.order,
      retold (all_unlisted path stale (all_indexed path fresh index)) c.remove_all.new.index.items (λ name. dropped (has_name name stale) path (added (has_name name fresh) path (users_of name dependents))) (λ name. users_of name c.put.new.dependents.items)
          (all_unlisted_is path stale (all_indexed path fresh index) (λ name. added (has_name name fresh) path (users_of name dependents)) (all_indexed_is path fresh index (λ name. users_of name dependents) c.self.invariant.2))
          left_is
          (λ name. replaced dependent dependents c.place_of-place.result place c.self.invariant.0 before known name ∙ ap (users_of name) (sym put_is)),
    )
