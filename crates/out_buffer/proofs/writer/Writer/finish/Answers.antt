use Rattle.std.proofs.Common.{◌≡◌, ap}
use Rattle.out_buffer.specs.Writer.{Writer}
use Rattle.out_buffer.proofs.writer.Writer.finish.Goals as goal

pub returns-clause-finished : goal.returns-clause-finished
returns-clause-finished g c = λ start before writer was.
    let held = rw (← c.self.view_is) at was in
    let buffer : writer.buffer ≡ c.self.inside.buffer.bytes.items = ap (λ (w : Writer). w.buffer) held.holds in
    rw (← c.self.view_is, buffer)
    (rw c.deref.ensures.value at (c.finish.ensures.finished start before writer.pieces (record { committed = held.committed; streamed = held.streamed })))
