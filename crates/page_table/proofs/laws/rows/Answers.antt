use Rattle.page_table.proofs.Agreeing.{rows_agree}
use Rattle.page_table.proofs.laws.rows.Goals as goal

pub returns : goal.returns
returns c = rows_agree
