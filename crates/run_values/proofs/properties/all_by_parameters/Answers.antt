use Rattle.std.proofs.Common.{Err, length, map, subst, ◌∙◌}
use Rattle.run_values.proofs.PropertyLemmas.{handed_on, next_failed, next_set}
use Rattle.run_values.proofs.properties.all_by_parameters.Goals as goal
use Rattle.page_meaning.specs.Beans.{all_by_parameters}
use Rattle.pg_text.specs.Failure.{Answers}
use Rattle.pg_value.specs.Value.{entry_of}

pub returns-in_err-onto-2 : goal.returns-in_err-onto-2
returns-in_err-onto-2 c =
    handed_on (all_by_parameters c.args.params.now c.args.record.now c.args.record.now) c.in_err-onto-2.field-0.0 c.from_residual-in_err-onto-2.result c.from_residual-in_err-onto-2.ensures.1
    (subst (λ x. Answers x (Err c.in_err-onto-2.field-0.0)) c.loop-done.invariant
    (next_failed c.args.params.now c.args.record.now c.loop-done.onto (map entry_of c.entries_from-next.result.now) c.loop-done.done (length c.entries_from-next.result.now) c.entries_from-next.ensures.same c.in_err-onto-2.field-0.0
    c.in_err-onto-2.ensures))

pub loop-done-preserved : goal.loop-done-preserved
loop-done-preserved c =
    next_set c.args.params.now c.args.record.now c.loop-done.onto (map entry_of c.entries_from-next.result.now) c.loop-done.done (length c.entries_from-next.result.now) c.entries_from-next.ensures.same c.in_ok-onto-2.onto
    c.in_ok-onto-2.ensures
    ∙ c.loop-done.invariant
