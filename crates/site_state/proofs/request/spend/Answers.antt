use Rattle.std.proofs.Common.{None, ap, ◌∙◌}
use Rattle.site_words.specs.Runs.{run_in, seated, spent, tree_in}
use Rattle.site_state.specs.Parts.{under_in}
use Rattle.site_state.proofs.Moving.{changed_run}
use Rattle.site_state.proofs.request.spend.Goals as goal

pub returns : goal.returns
returns c =
    changed_run under_in (λ u. seated (spent c.args.weight (run_in u)) (tree_in u)) c.args.runs.now.items c.args.pass c.index_mut.result.now c.take-request.new.self c.spent.result None c.requires c.index_mut.ensures.value
    (c.spent.ensures ∙ ap (λ r. seated (spent c.args.weight (run_in (under_in r))) (tree_in (under_in r))) c.take-request.ensures.value)
