use Rattle.std.proofs.Common.{List, map, subst, sym, ◌∙◌}
use Rattle.run_values.proofs.RoundLemmas.{fault_as, loop_rounds_is, rounds_failed, rounds_gave}
use Rattle.run_values.proofs.loops.rounds_of.Goals as goal
use Rattle.run_values.specs.Rounds.{items_answer, items_of}
use Rattle.page_meaning.specs.Rounds.{Round, rounds_of}
use Rattle.page_table.specs.LoopMoves.{loop_rounds}
use Rattle.pg_text.specs.Failure.{AnswersAs}
use Rattle.pg_value.specs.Value.{entry_of}

pub returns-in_err-items : goal.returns-in_err-items
returns-in_err-items c =
    subst (λ r. AnswersAs (λ (x : List Round). x) r c.from_residual.result) (sym (loop_rounds_is c.args.over (map entry_of c.args.table.now)))
    (rounds_failed items_of (items_answer c.args.over (map entry_of c.args.table.now)) (λ items. rounds_of items (map entry_of c.args.table.now)) c.in_err-items.field-0.0 c.from_residual.result c.from_residual.ensures.1
    c.in_err-items.ensures)

pub returns-in_err-new : goal.returns-in_err-new
returns-in_err-new c =
    fault_as (λ (x : List Round). x) (loop_rounds c.args.over (map entry_of c.args.table.now)) c.in_err-new.field-0.0 c.from_residual-in_err-new.result c.from_residual-in_err-new.ensures.1
    (rounds_gave c.args.over (map entry_of c.args.table.now) (items_of c.in_ok-items.items) c.number_at-begin.result c.number_at-end.result c.number_at-step.result c.new.result c.in_ok-items.ensures
    c.number_at-begin.ensures c.number_at-end.ensures c.number_at-step.ensures c.new.ensures
    ∙ c.in_err-new.was)

pub returns : goal.returns
returns c =
    rounds_gave c.args.over (map entry_of c.args.table.now) (items_of c.in_ok-items.items) c.number_at-begin.result c.number_at-end.result c.number_at-step.result c.new.result c.in_ok-items.ensures
    c.number_at-begin.ensures c.number_at-end.ensures c.number_at-step.ensures c.new.ensures
    ∙ c.in_ok-new.was
