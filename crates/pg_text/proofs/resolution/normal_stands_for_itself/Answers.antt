use Rattle.pg_text.proofs.NormalPaths.{normal_stands}
use Rattle.pg_text.proofs.resolution.normal_stands_for_itself.Goals as goal

pub returns : goal.returns
returns c = normal_stands
