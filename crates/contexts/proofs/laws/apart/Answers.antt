use Rattle.contexts.proofs.ApartLemmas.{is_apart}
use Rattle.contexts.proofs.laws.apart.Goals as goal

pub returns : goal.returns
returns g c = is_apart g.P.Compiled.needs g.P.Compiled.made
