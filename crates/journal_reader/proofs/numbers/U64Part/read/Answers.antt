use Rattle.std.proofs.Common.{rules}
use Rattle.journal_reader.proofs.NumberLemmas.{number_read, number_stops}
use Rattle.journal_reader.proofs.Parts.{passed}
use Rattle.journal_reader.proofs.numbers.U64Part.read.Goals as goal

pub returns-in_err-bytes : goal.returns-in_err-bytes
returns-in_err-bytes g c = passed c.from_residual.result c.from_residual.ensures.1 (number_stops c.in_err-bytes.ensures)

pub returns : goal.returns
returns g c = number_read c.in_ok-bytes.bytes c.from_be_bytes.result (search rules) c.from_be_bytes.ensures (search rules) c.in_ok-bytes.ensures
