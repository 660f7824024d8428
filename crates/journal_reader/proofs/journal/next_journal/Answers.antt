use Rattle.std.proofs.Common.{ap, arith, ◌∙◌}
use Rattle.pg_text.specs.declared.failure.Failure.TheVariants.{Fault}
use Rattle.journal_reader.proofs.JournalLemmas.{journal_read, next_passed, nothing_left, tail_stopped}
use Rattle.journal_reader.proofs.journal.next_journal.Goals as goal

pub returns-in_err-behind_first-in-Ok-eq80 : goal.returns-in_err-behind_first-in-Ok-eq80
returns-in_err-behind_first-in-Ok-eq80 g c =
    next_passed c.from_residual.result c.from_residual.ensures.1 (tail_stopped (omega arith) c.in-Ok-eq80.ensures c.in_err-behind_first-in-Ok-eq80.ensures)

pub returns-in_ok-behind_first-in-Ok-eq80 : goal.returns-in_ok-behind_first-in-Ok-eq80
returns-in_ok-behind_first-in-Ok-eq80 g c = journal_read (cc) c.in-Ok-eq80.ensures c.in_ok-behind_first-in-Ok-eq80.ensures

pub returns-in-Err-Fault-NotThere : goal.returns-in-Err-Fault-NotThere
returns-in-Err-Fault-NotThere g c =
    let found = c.in-Err-Fault-NotThere in
    nothing_left found.field-0 (found.field-0-is ∙ ap Fault (rw found.field-0-is at found.field-0-0-is)) found.ensures
