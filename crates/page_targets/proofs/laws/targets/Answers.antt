use Rattle.page_targets.proofs.Moves.{runs_look_last}
use Rattle.page_targets.proofs.laws.targets.Goals as goal

pub returns : goal.returns
returns c = runs_look_last
