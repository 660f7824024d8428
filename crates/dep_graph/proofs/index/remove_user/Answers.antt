use Rattle.std.proofs.Common.{◌∙◌, sym, ap, subst}
use Rattle.pg_text.specs.Names.{AreInOrder, without_name}
use Rattle.pg_text.proofs.NameLemmas.{order_without_name}
use Rattle.dep_graph.proofs.index.remove_user.Goals as goal

pub new-requires : goal.new-requires
new-requires c =
    subst AreInOrder (sym (c.take_out.ensures ∙ ap (without_name c.args.path.now) c.into_vec-users.ensures.paths)) (order_without_name c.args.path.now _ c.into_vec-users.ensures.order)

pub returns : goal.returns
returns c =
    let users = c.new.ensures ∙ c.take_out.ensures ∙ ap (without_name c.args.path.now) (c.into_vec-users.ensures.paths ∙ c.replace.ensures.value) in
    λ i. record { name = c.args.named.now.name; users = users i }
