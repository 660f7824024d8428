use Rattle.std.proofs.lemmas.List.{take_min}
use Rattle.http_in.specs.HeadEnd.{front_of}
use Rattle.http_in.proofs.head_end.front_of.Goals as goal

pub returns-clause-value : goal.returns-clause-value
unfolding front_of
returns-clause-value c = rw (c.min.ensures, take_min)
