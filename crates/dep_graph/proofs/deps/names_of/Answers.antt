use Rattle.std.proofs.Common.{◌≡◌, ◌∙◌, sym, ap, subst}
use Rattle.std.specs.Prelude.{IfOk}
use Rattle.pg_text.proofs.PlaceLemmas.{item_found, item_absent}
use Rattle.dep_graph.specs.declared.entries.Dependent.{Dependent}
use Rattle.dep_graph.specs.Deps.{names_at, path_of}
use Rattle.dep_graph.proofs.deps.names_of.Goals as goal

pub returns-in-Ok : goal.returns-in-Ok
returns-in-Ok c =
    let item = c.index-dependents-at.result in
    subst (λ names. IfOk c.copy.result (λ copy. copy ≡ names))
    (ap (λ (dependent : Dependent). dependent.names) (sym c.index-dependents-at.is) ∙ ap names_at (sym (item_found path_of c.args.path.now c.args.dependents.now c.in-Ok.at item c.in-Ok.ensures c.index-dependents-at.is)))
    c.copy.ensures

pub returns-in-Err : goal.returns-in-Err
returns-in-Err c = c.empty.ensures ∙ ap names_at (sym (item_absent path_of c.args.path.now c.args.dependents.now c.in-Err.field-0 c.in-Err.ensures))
