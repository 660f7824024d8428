use Rattle.std.proofs.Common.{take, refl, ap, ◌∙◌}
use Rattle.dep_graph.specs.Deps.{all_indexed, all_unlisted}
use Rattle.dep_graph.proofs.IndexLemmas.{new_first, retold, taken_out}
use Rattle.dep_graph.proofs.index.add_all.Goals as goal

pub returns-in-Err-clause-err : goal.returns-in-Err-clause-err
returns-in-Err-clause-err c = λ users is new.
    let path = c.args.path.now in
    let first = take c.in-Err.done c.args.names.now in
    let old = c.args.index.now.items in
    retold (all_unlisted path first (all_indexed path first old)) c.remove_all.new.index.items users users (taken_out path first old users is (new_first path c.args.names.now c.in-Err.done users new))
    (c.remove_all.ensures.index ∙ ap (all_unlisted path first) c.in-Err.ensures.err.1) (λ name. refl)
