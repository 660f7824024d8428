use Rattle.std.proofs.Common.{refl}
use Rattle.journal_reader.proofs.FrameLemmas.{head_stops, list_begun, plain_begun, record_begun}
use Rattle.journal_reader.proofs.StepLemmas.{on_passed}
use Rattle.journal_reader.proofs.frames.begun.Goals as goal

pub returns-in_err-value-clause-read : goal.returns-in_err-value-clause-read
returns-in_err-value-clause-read g c = on_passed c.from_residual.result c.from_residual.ensures.1 (head_stops c.in_err-value.ensures)

pub returns-in-Plain-clause-read : goal.returns-in-Plain-clause-read
returns-in-Plain-clause-read g c = plain_begun _ c.in-Plain.value c.in-Plain.is refl c.in_ok-value.ensures

pub returns-in-List-clause-read : goal.returns-in-List-clause-read
returns-in-List-clause-read g c = list_begun c.list_step.result c.empty.result c.in-List.count c.in-List.is c.empty.ensures c.list_step.ensures.ok c.list_step.ensures.err c.in_ok-value.ensures

pub returns-in-Record-clause-read : goal.returns-in-Record-clause-read
returns-in-Record-clause-read g c = record_begun c.record_step.result c.empty-in-Record.result c.in-Record.count c.in-Record.is c.empty-in-Record.ensures c.in_ok-value.ensures c.record_step.ensures
