use Rattle.contexts.proofs.ApartLemmas.{same_in_two_worlds}
use Rattle.contexts.proofs.laws.two_worlds.Goals as goal

pub returns : goal.returns
returns g c = same_in_two_worlds g.P.Compiled.needs g.P.Compiled.made
