use Rattle.std.proofs.Common.{ap, subst, ◌∙◌}
use Rattle.sink_buffer.specs.Buffer.{Buffer, Writes}
use Rattle.sink_buffer.proofs.Writing.{goes_past}
use Rattle.sink_buffer.proofs.buffer.SinkBuffer.pass.Goals as goal

pub returns : goal.returns
returns g c =
    let old : Buffer = record { bytes = c.self.inside.bytes.items; failed = c.self.inside.failed } in
    let new : Buffer = record { bytes = c.self.inside.bytes.items; failed = c.write.new.failed } in
    let empty = ap (λ (b : Buffer). b.bytes) c.self.view_is ∙ c.requires in
    subst (λ (b : Buffer). Writes (g.K.Sink.taken c.args.sink.now) (g.K.Sink.taken c.write.new.sink) (g.K.Sink.faults c.args.sink.now) (g.K.Sink.faults c.write.new.sink) b new c.args.bytes.now) c.self.view_is
    (goes_past _ _ _ _ old c.write.new.failed _ _ empty empty c.write.ensures.sent c.write.ensures.later c.write.ensures.rose)
