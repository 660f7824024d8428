use Rattle.std.proofs.Common.{ap, arith, drop, length, ◌∙◌}
use Rattle.http_in.proofs.Buffered.{between_length, dropped_is}
use Rattle.http_in.proofs.read_buffer.ReadBuffer.drop_front.Goals as goal

pub overflow_add-self : goal.overflow_add-self
overflow_add-self c =
    let b = c.self.inside in
    omega (arith, between_length b.bytes.items b.used b.read c.self.invariant.0 c.self.invariant.1, ap length c.self.view_is, c.requires)

pub invariant_of-self : goal.invariant_of-self
invariant_of-self c =
    let b = c.self.inside in
    (omega (arith, between_length b.bytes.items b.used b.read c.self.invariant.0 c.self.invariant.1, ap length c.self.view_is, c.requires), c.self.invariant.1)

pub returns : goal.returns
returns c =
    let b = c.self.inside in
    dropped_is b.bytes.items b.used b.read c.args.count ∙ ap (drop c.args.count) c.self.view_is
