use Rattle.std.proofs.Common.{rules, ◌∙◌, ap, filter, not}
use Rattle.std.proofs.lemmas.Fn.{filter_same}
use Rattle.pg_text.specs.Names.{has_name}
use Rattle.dep_graph.proofs.deps.besides.Goals as goal

pub returns : goal.returns
returns c = filter_same _ _ _ (λ x b f' k. search rules) _ _ c.retain.ensures.filtered ∙ ap (filter (λ name. not (has_name name c.args.others.now))) (c.into_vec-left.ensures.paths ∙ c.in_ok-copy.ensures)
