use Rattle.std.proofs.Common.{◌≡◌, IfOk, ap, subst, sym, ◌∙◌}
use Rattle.run_values.proofs.NameListLemmas.{params_listed}
use Rattle.run_values.proofs.request.all_values.Goals as goal
use Rattle.run_values.specs.NameLists.{lists_by_name}

pub returns : goal.returns
returns c =
    subst (λ es. IfOk c.lists_by_name.result (λ values. values ≡ es)) (ap lists_by_name c.in_ok-param_entries.ensures ∙ sym (params_listed c.args.params.now)) c.lists_by_name.ensures
