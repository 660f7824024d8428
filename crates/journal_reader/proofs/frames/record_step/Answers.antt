use Rattle.std.proofs.Common.{arith}
use Rattle.journal_reader.proofs.FrameLemmas.{entry_read, entry_stops, record_made}
use Rattle.journal_reader.proofs.StepLemmas.{on_passed}
use Rattle.journal_reader.proofs.frames.record_step.Goals as goal

pub returns-in_err-key-in-Some : goal.returns-in_err-key-in-Some
returns-in_err-key-in-Some g c = on_passed c.from_residual.result c.from_residual.ensures.1 (entry_stops c.args.done c.args.left c.in-Some.left (omega arith) c.in_err-key-in-Some.ensures)

pub returns-in_ok-key-in-Some : goal.returns-in_ok-key-in-Some
returns-in_ok-key-in-Some g c = entry_read c.args.done c.args.left c.in-Some.left (omega arith) c.in_ok-key-in-Some.ensures

pub returns-in_ok-new-in-None : goal.returns-in_ok-new-in-None
returns-in_ok-new-in-None g c = record_made c.args.done c.args.left _ (omega arith) c.in_ok-entries-in-None.ensures c.in_ok-new-in-None.ensures
