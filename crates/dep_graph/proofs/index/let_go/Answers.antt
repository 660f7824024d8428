use Rattle.std.proofs.Common.{rules, ◌∙◌, List, ℕ, Bool, filter, not, sym, ap, subst}
use Rattle.std.proofs.lemmas.Fn.{filter_same}
use Rattle.pg_text.specs.Names.{AreInOrder, has_name}
use Rattle.pg_text.proofs.NameLemmas.{order_left}
use Rattle.dep_graph.proofs.index.let_go.Goals as goal

pub new-requires : goal.new-requires
new-requires c =
    let stays : List ℕ → Bool = λ user. not (has_name user c.args.paths.now) in
    subst AreInOrder (sym (filter_same _ _ _ (λ x b f' k. search rules) _ _ c.retain.ensures.filtered ∙ ap (filter stays) c.into_vec-users.ensures.paths)) (order_left stays _ c.into_vec-users.ensures.order)

pub returns : goal.returns
returns c =
    let stays : List ℕ → Bool = λ user. not (has_name user c.args.paths.now) in
    let users = c.new.ensures ∙ filter_same _ _ _ (λ x b f' k. search rules) _ _ c.retain.ensures.filtered ∙ ap (filter stays) (c.into_vec-users.ensures.paths ∙ c.replace.ensures.value) in
    λ i. record { name = c.args.named.now.name; users = users i }
