use Rattle.load_gen.proofs.CountLemmas as counts
use Rattle.load_gen.proofs.law.counted.Goals as goal

pub returns : goal.returns
returns c = counts.counted
