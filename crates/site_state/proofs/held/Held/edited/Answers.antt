use Rattle.std.proofs.Common.{Ok, ap, sym, ◌∙◌}
use Rattle.std.proofs.lemmas.Result.{err_from_is_err_and}
use Rattle.std.specs.Arc.{arc_value}
use Rattle.source_tree.specs.Edits.{after_edits}
use Rattle.source_tree.specs.Limits.{tree_of}
use Rattle.site_state.proofs.JournalSteps.{failed_too}
use Rattle.site_state.proofs.held.Held.edited.Goals as goal

pub returns-in_err-tree : goal.returns-in_err-tree
returns-in_err-tree g c =
    let p = err_from_is_err_and c.from_residual.result c.from_residual.ensures.1 in
    failed_too (λ tree. arc_value tree) _ _ c.from_residual.result _ p.0 p.1 p.2 c.in_err-tree.ensures.answer (ap (λ t. tree_of (after_edits c.args.edits.now c.args.version t)) c.deref.ensures)

pub returns : goal.returns
returns g c =
    sym (ap (λ t. tree_of (after_edits c.args.edits.now c.args.version t)) c.deref.ensures) ∙ (c.in_ok-tree.ensures.answer ∙ ap Ok (sym c.in_ok-new.ensures.ok))
