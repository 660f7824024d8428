use Rattle.std.proofs.Common.{◌∙◌}
use Rattle.journal_reader.proofs.Parts.{passed}
use Rattle.journal_reader.proofs.TextLemmas.{bytes_read, bytes_stop}
use Rattle.journal_reader.proofs.texts.BytesPart.read.Goals as goal

pub returns-in_err-bytes : goal.returns-in_err-bytes
returns-in_err-bytes g c = passed c.from_residual.result c.from_residual.ensures.1 (bytes_stop c.in_err-bytes.ensures)

pub returns : goal.returns
returns g c = bytes_read c.in_ok-bytes.bytes c.new.result (c.new.ensures ∙ c.into_vec.ensures) c.in_ok-bytes.ensures
