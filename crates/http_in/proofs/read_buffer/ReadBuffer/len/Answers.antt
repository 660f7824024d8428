use Rattle.std.proofs.Common.{sym, ap, length, ◌∙◌}
use Rattle.http_in.proofs.Buffered.{between_length}
use Rattle.http_in.proofs.read_buffer.ReadBuffer.len.Goals as goal

pub returns : goal.returns
returns c =
    sym (between_length c.self.inside.bytes.items c.self.inside.used c.self.inside.read c.self.invariant.0 c.self.invariant.1) ∙ ap length c.self.view_is
