use Rattle.std.proofs.Common.{◌≡◌, ◌∙◌, Err, List, Result, ap, length, subst, sym}
use Rattle.std.specs.Prelude.{map, reverse, take}
use Rattle.run_moves.specs.Loops.{loop_of}
use Rattle.run_moves.specs.Opened.{open_of}
use Rattle.run_moves.specs.Rounds.{loop_answer}
use Rattle.run_moves.proofs.Openings.{answers_err, answers_short, loop_made, loop_unmade}
use Rattle.run_moves.proofs.rounds_arm.new_loop.Goals as goal
use Rattle.page_code.specs.declared.operands.LoopKind.{LoopKind}
use Rattle.page_meaning.specs.Attributes.{table_of}
use Rattle.page_meaning.specs.Rounds.{Round}
use Rattle.page_table.specs.LoopMoves.{loop_rounds}
use Rattle.page_table.specs.Open.{Loop}
use Rattle.pg_text.specs.Failure.{AnswersAs}
use Rattle.pg_value.specs.Datum.{Datum}
use Rattle.pg_value.specs.Value.{datum_of, entry_of}
use Rattle.pg_value.specs.declared.fault.RunFault.{RunFault}

-- the loop that is expected, by the values on top
abbrev expected : LoopKind → List Datum → Result Loop RunFault
expected kind stack = loop_answer kind (table_of kind.names (reverse (take (length kind.names) stack)))

pub returns-in_err-values : goal.returns-in_err-values
returns-in_err-values c = answers_short loop_of (expected c.args.kind.now c.args.opened.now.stack) c.from_residual.result c.from_residual.ensures.1

pub returns-in_err-rounds : goal.returns-in_err-rounds
returns-in_err-rounds c =
    let names = c.args.kind.now.names in
    let taken : map datum_of c.top.result.now ≡ reverse (take (length names) (open_of c.args.opened.now).stack) = c.top.ensures ∙ ap (λ n. reverse (take n (open_of c.args.opened.now).stack)) c.len.ensures in
    let same = c.in_ok-values.ensures ∙ ap (λ xs. table_of xs (map datum_of c.top.result.now)) c.as_slice.ensures ∙ ap (table_of names) taken in
    answers_err loop_of (expected c.args.kind.now c.args.opened.now.stack) c.from_residual-in_err-rounds.result c.in_err-rounds.field-0.0 c.from_residual-in_err-rounds.ensures.1
    (loop_unmade c.args.kind.now (table_of names (reverse (take (length names) (open_of c.args.opened.now).stack))) (map entry_of c.in_ok-values.values.items) same (λ (rs : List Round). rs) loop_of
    c.in_err-rounds.field-0.0
    (subst (λ xs. AnswersAs (λ (rs : List Round). rs) (loop_rounds c.args.kind.now.over (map entry_of xs)) (Err c.in_err-rounds.field-0.0)) c.deref.ensures.value c.in_err-rounds.ensures))

pub returns-in_err-copied : goal.returns-in_err-copied
returns-in_err-copied c = answers_short loop_of (expected c.args.kind.now c.args.opened.now.stack) c.from_residual-in_err-copied.result c.from_residual-in_err-copied.ensures.1

pub returns-in_err-copied-2 : goal.returns-in_err-copied-2
returns-in_err-copied-2 c = answers_short loop_of (expected c.args.kind.now c.args.opened.now.stack) c.from_residual-in_err-copied-2.result c.from_residual-in_err-copied-2.ensures.1

pub returns : goal.returns
returns c =
    let names = c.args.kind.now.names in
    let taken : map datum_of c.top.result.now ≡ reverse (take (length names) (open_of c.args.opened.now).stack) = c.top.ensures ∙ ap (λ n. reverse (take n (open_of c.args.opened.now).stack)) c.len.ensures in
    let same = c.new.ensures ∙ c.in_ok-values.ensures ∙ ap (λ xs. table_of xs (map datum_of c.top.result.now)) c.as_slice.ensures ∙ ap (table_of names) taken in
    loop_made c.args.kind.now (table_of names (reverse (take (length names) (open_of c.args.opened.now).stack))) c.new.result same c.in_ok-copied.field-0 c.in_ok-copied-2.field-0 c.in_ok-rounds.rounds
    (ap (loop_rounds c.args.kind.now.over) c.new.ensures ∙ ap (λ xs. loop_rounds c.args.kind.now.over (map entry_of xs)) (sym c.deref.ensures.value) ∙ c.in_ok-rounds.ensures) c.in_ok-copied.ensures c.in_ok-copied-2.ensures
