use Rattle.std.proofs.lemmas.Result.{IfOk-from_err}
use Rattle.run_values.proofs.statuses.blank_entries.Goals as goal

pub returns-in_err-given_entry-3 : goal.returns-in_err-given_entry-3
returns-in_err-given_entry-3 c = IfOk-from_err c.from_residual-in_err-given_entry-3.result _ c.from_residual-in_err-given_entry-3.ensures.0
