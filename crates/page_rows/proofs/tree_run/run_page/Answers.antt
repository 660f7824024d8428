use Rattle.std.proofs.Common.{ap, sym, ◌∙◌}
use Rattle.std.specs.Prelude.{is_some}
use Rattle.page_rows.proofs.Beginning.{begins_in_order}
use Rattle.page_rows.proofs.tree_run.run_page.Goals as goal
use Rattle.scopes.specs.Scopes.{starting}

pub run_at-end-requires-clause-in_order : goal.run_at-end-requires-clause-in_order
run_at-end-requires-clause-in_order g c =
    begins_in_order c.in_ok-scopes.scopes _ _ c.is_some-has_session.result (c.in_ok-scopes.ensures ∙ ap starting c.first_attributes.ensures)
    (c.is_some-has_session.ensures ∙ sym (ap (λ id. is_some id) c.beginning-around.ensures.id))
    c.new-site.ensures.asked c.beginning-around.ensures.visits c.beginning-around.ensures.charge

pub run_at-end-requires-clause-writer : goal.run_at-end-requires-clause-writer
run_at-end-requires-clause-writer g c = (_, _, _, c.new-writer.ensures.stands _ _)
