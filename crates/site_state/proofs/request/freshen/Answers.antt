use Rattle.std.proofs.Common.{None, ap, ◌∙◌}
use Rattle.site_words.specs.declared.words.Reply.TheVariants.{Made}
use Rattle.site_words.specs.Runs.{freshened, run_in, seated, tree_in}
use Rattle.site_state.specs.Parts.{under_in}
use Rattle.site_state.proofs.Moving.{changed_run}
use Rattle.site_state.proofs.request.freshen.Goals as goal

pub returns : goal.returns
returns c =
    changed_run under_in (λ u. seated (freshened (run_in u) (Made c.args.session)) (tree_in u)) c.args.runs.now.items c.args.pass c.index_mut.result.now c.take-request.new.self c.freshened.result None c.requires c.index_mut.ensures.value
    (c.freshened.ensures ∙ ap (λ r. seated (freshened (run_in (under_in r)) (Made c.args.session)) (tree_in (under_in r))) c.take-request.ensures.value)
