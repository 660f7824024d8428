use Rattle.std.proofs.Common.{refl}
use Rattle.page_meaning.specs.Work.{charge_limit}
use Rattle.run_stage.proofs.charges.is_spent.Goals as goal

pub returns : goal.returns
unfolding charge_limit
returns c = refl
