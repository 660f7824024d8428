use Rattle.std.proofs.Common.{Ok, Err, ap, subst, ◌∙◌}
use Rattle.std.proofs.lemmas.Result.{on_ok_weaker}
use Rattle.pg_text.specs.Names.{with_name}
use Rattle.pg_text.specs.Order.{IsPlace}
use Rattle.dep_graph.specs.Deps.{name_of}
use Rattle.dep_graph.proofs.IndexLemmas.{add_absent, add_found}
use Rattle.dep_graph.proofs.index.add.Goals as goal

pub returns-in-Ok-clause-ok : goal.returns-in-Ok-clause-ok
returns-in-Ok-clause-ok c =
    let items = c.args.index.now.items in
    let place = subst (λ index. IsPlace name_of c.args.name.now index (Ok c.in-Ok.at)) c.deref.ensures.value c.in-Ok.ensures in
    on_ok_weaker c.add_user.result
    (add_found c.args.path.now c.args.name.now items c.in-Ok.at c.index_mut.result.now place c.index_mut.ensures.value c.add_user.new.named) c.add_user.ensures.ok

pub returns-in_ok-insert-in-Err-2-clause-ok : goal.returns-in_ok-insert-in-Err-2-clause-ok
returns-in_ok-insert-in-Err-2-clause-ok c =
    let place = subst (λ index. IsPlace name_of c.args.name.now index (Err c.in-Err.at)) c.deref.ensures.value c.in-Err.ensures in
    let users = c.in_ok-insert-in-Err.ensures.ok ∙ ap (λ path. with_name path c.empty-users.result) c.in_ok-copy-in-Err.ensures ∙ ap (with_name c.args.path.now) c.empty-users.ensures in
    c.in_ok-insert-in-Err-2.ensures.items ∙ add_absent c.args.path.now c.args.name.now c.args.index.now.items c.in-Err.at _ place (λ i. record { name = c.in_ok-name-in-Err.ensures i; users = users i })
