use Rattle.std.proofs.Common.{[], ap, subst}
use Rattle.sink_buffer.specs.Buffer.{Buffer, Writes}
use Rattle.sink_buffer.proofs.Writing.{goes_on}
use Rattle.sink_buffer.proofs.buffer.SinkBuffer.hand_on.Goals as goal

pub returns-clause-written : goal.returns-clause-written
returns-clause-written g c =
    let empty : Buffer = record { bytes = c.clear.new.self.items; failed = c.write.new.failed } in
    subst (λ (held : Buffer). Writes (g.K.Sink.taken c.args.sink.now) (g.K.Sink.taken c.write.new.sink) (g.K.Sink.faults c.args.sink.now) (g.K.Sink.faults c.write.new.sink) held empty []) c.self.view_is
    (goes_on _ _ _ _ (record { bytes = c.self.inside.bytes.items; failed = c.self.inside.failed }) c.write.new.failed _ c.clear.ensures (rw c.as_slice.ensures.value at c.write.ensures.sent)
    (λ f. let stays = c.write.ensures.over f in (ap g.K.Sink.taken stays.0, stays.1)) c.write.ensures.later c.write.ensures.rose)
