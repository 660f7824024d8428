use Rattle.std.proofs.Common.{◌-◌, ap, arith, take, ◌∙◌}
use Rattle.http_in.proofs.Buffered.{moved_is}
use Rattle.http_in.proofs.read_buffer.ReadBuffer.move_to_front.Goals as goal

pub invariant_of-self : goal.invariant_of-self
invariant_of-self c = (omega arith, omega (arith, c.copy_within.ensures.len))

pub returns : goal.returns
returns c =
    let b = c.self.inside in
    ap (take (b.read - b.used)) c.copy_within.ensures.items
    ∙ moved_is b.bytes.items b.used b.read c.self.invariant.0 c.self.invariant.1 ∙ c.self.view_is
