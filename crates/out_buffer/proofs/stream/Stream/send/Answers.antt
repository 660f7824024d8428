use Rattle.std.proofs.Common.{true, subst, List, ℕ}
use Rattle.http_out.specs.Response.{chunk}
use Rattle.out_buffer.specs.Streamed.{opened, HasTaken}
use Rattle.out_buffer.proofs.StreamLemmas.{chunk_more, takes_more}
use Rattle.out_buffer.proofs.stream.Stream.send.Goals as goal

pub returns-then-self-clause-sent : goal.returns-then-self-clause-sent
returns-then-self-clause-sent g c = λ start before pieces was.
    let self = c.args.self.now in
    let e = c.write_chunk.ensures in
    let piece = c.args.piece.now in
    let before_it = rw c.if-self.true at was.streamed in
    let more = takes_more start before (opened self.head true pieces) (chunk piece) _ _ _ _ _ _ before_it e.sent e.later e.rose in
    record {
      committed = was.committed;
      streamed = rw c.if-self.true (subst (λ (text : List ℕ). HasTaken start before text c.write_chunk.new.failed (g.K.Sink.taken c.write_chunk.new.sink) (g.K.Sink.faults c.write_chunk.new.sink)) (chunk_more self.head pieces piece) more);
    }
