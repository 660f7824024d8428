use Rattle.std.proofs.Common.{rules, ◌≡◌, ◌++◌, ℕ, List, [], length, sym, ap, ◌∙◌}
use Rattle.out_buffer.specs.Held.{writer_of}
use Rattle.out_buffer.specs.Writer.{Writer, piece_of}
use Rattle.out_buffer.specs.contracts.writer.Writer.{the_view}
use Rattle.out_buffer.proofs.PutLemmas.{flush_out}
use Rattle.out_buffer.proofs.writer.Writer.flush.Goals as goal

pub returns-clause-stands : goal.returns-clause-stands
returns-clause-stands g c = λ start before writer was.
    let held = rw (← c.self.view_is) at was in
    let inside = c.self.inside in
    let kept : writer.kept ≡ inside.kept = ap (λ (w : Writer). w.kept) held.holds in
    let none : length inside.kept ≡ 0 = search rules in
    let buffer : writer.buffer ≡ inside.buffer.bytes.items = ap (λ (w : Writer). w.buffer) held.holds in
    let sent = rw c.deref.ensures.value at (c.in_ok-commit.ensures.sent start before writer.pieces (record { committed = held.committed; streamed = held.streamed })) in
    let after = rw (← buffer) at sent in
    rw (flush_out inside.kept writer kept none) (record {
      holds = ap (λ (w : Writer). record w { pieces = writer.pieces ++ piece_of writer.buffer; buffer = [] }) held.holds
          ∙ ap (λ (items : List ℕ). writer_of (record (the_view inside) { buffer = items }) (writer.pieces ++ piece_of writer.buffer)) (sym c.clear.ensures.items);
      committed = after.committed;
      streamed = after.streamed;
    })
