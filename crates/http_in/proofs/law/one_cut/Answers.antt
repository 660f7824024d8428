use Rattle.http_in.proofs.OneCut.{one_cut}
use Rattle.http_in.proofs.law.one_cut.Goals as goal

pub returns : goal.returns
returns c = one_cut
