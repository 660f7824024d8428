use Rattle.std.proofs.Common.{◌≡◌, true, false, Ok, Err, length, sym, ap, subst, ◌∙◌}
use Rattle.std.specs.Prelude.{◌==◌}
use Rattle.std.proofs.lemmas.List.{get_or-set_same}
use Rattle.pg_text.specs.Order.{IsPlace}
use Rattle.dep_graph.specs.declared.entries.Named.{Named}
use Rattle.dep_graph.specs.Deps.{name_of}
use Rattle.dep_graph.proofs.IndexLemmas.{drop_absent, drop_found, keep_found}
use Rattle.dep_graph.proofs.index.remove.Goals as goal

pub returns-then-is_empty : goal.returns-then-is_empty
returns-then-is_empty c =
    let items = c.args.index.now.items in
    let place = subst (λ index. IsPlace name_of c.args.name.now index (Ok c.in-Ok.at)) c.deref.ensures.value c.in-Ok.ensures in
    let here : c.index.result.now ≡ c.remove_user.new.named = c.index.ensures ∙ get_or-set_same items c.in-Ok.at c.remove_user.new.named c.index.result.now place.0 in
    let none : (length c.remove_user.new.named.users == 0) ≡ true = ap (λ (n : Named). length n.users == 0) (sym here) ∙ sym c.is_empty.ensures ∙ c.if-is_empty.true in
    c.remove.ensures.items
    ∙ drop_found c.args.path.now c.args.name.now items c.in-Ok.at c.index_mut.result.now place c.index_mut.ensures.value c.remove_user.new.named c.remove_user.ensures none

pub returns-else-is_empty : goal.returns-else-is_empty
returns-else-is_empty c =
    let items = c.args.index.now.items in
    let place = subst (λ index. IsPlace name_of c.args.name.now index (Ok c.in-Ok.at)) c.deref.ensures.value c.in-Ok.ensures in
    let here : c.index.result.now ≡ c.remove_user.new.named = c.index.ensures ∙ get_or-set_same items c.in-Ok.at c.remove_user.new.named c.index.result.now place.0 in
    let some : (length c.remove_user.new.named.users == 0) ≡ false = ap (λ (n : Named). length n.users == 0) (sym here) ∙ sym c.is_empty.ensures ∙ c.if-is_empty.false in
    keep_found c.args.path.now c.args.name.now items c.in-Ok.at c.index_mut.result.now place c.index_mut.ensures.value c.remove_user.new.named c.remove_user.ensures some

pub returns-in_default : goal.returns-in_default
returns-in_default c =
    drop_absent c.args.path.now c.args.name.now c.args.index.now.items c.in_default.field-0
    (subst (λ index. IsPlace name_of c.args.name.now index (Err c.in_default.field-0)) c.deref.ensures.value c.in_default.ensures)
