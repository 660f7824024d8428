use Rattle.page_table_tests.proofs.Stepping.{steps_run}
use Rattle.page_table_tests.proofs.steps.Goals as goal

pub returns : goal.returns
returns c = steps_run
