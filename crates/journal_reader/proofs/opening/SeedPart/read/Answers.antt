use Rattle.journal_reader.proofs.OpeningParts.{seed_read, seed_stops}
use Rattle.journal_reader.proofs.Parts.{passed}
use Rattle.journal_reader.proofs.opening.SeedPart.read.Goals as goal

pub returns-in_err-seed : goal.returns-in_err-seed
returns-in_err-seed g c = passed c.from_residual.result c.from_residual.ensures.1 (seed_stops c.in_err-seed.ensures)

pub returns : goal.returns
returns g c = seed_read c.in_ok-seed.ensures
