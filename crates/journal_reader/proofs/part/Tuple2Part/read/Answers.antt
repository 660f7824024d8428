use Rattle.journal_reader.proofs.Compounds.{pair_first, pair_read, pair_second}
use Rattle.journal_reader.proofs.Parts.{passed}
use Rattle.journal_reader.proofs.part.Tuple2Part.read.Goals as goal

pub returns-in_err-first : goal.returns-in_err-first
returns-in_err-first g c = passed c.from_residual.result c.from_residual.ensures.1 (pair_first g.A.Part.is g.A.Part.text g.B.Part.is g.B.Part.text c.in_err-first.ensures)

pub returns-in_err-second : goal.returns-in_err-second
returns-in_err-second g c =
    passed c.from_residual-in_err-second.result c.from_residual-in_err-second.ensures.1 (pair_second g.A.Part.is g.A.Part.text g.B.Part.is g.B.Part.text c.in_ok-first.ensures c.in_err-second.ensures)

pub returns : goal.returns
returns g c = pair_read g.A.Part.is g.A.Part.text g.B.Part.is g.B.Part.text c.in_ok-first.ensures c.in_ok-second.ensures
