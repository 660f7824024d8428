use Rattle.std.proofs.Common.{◌≡◌, ◌<◌, ◌++◌, subst, length, List, ℕ, rules}
use Rattle.http_out.specs.Response.{chunk, end_mark}
use Rattle.out_buffer.specs.Streamed.{HasTaken}
use Rattle.out_buffer.proofs.StreamLemmas.{no_rest, rest_left, takes_more}
use Rattle.out_buffer.proofs.stream.write_rest.Goals as goal
use Rattle.out_buffer.proofs.stream.write_rest.Goals.{then-not-is_empty, else-not-is_empty}

pub returns-clause-taken : goal.returns-clause-taken
returns-clause-taken g c = λ start before text was.
    let rest = c.args.rest.now in
    let e = c.write_end.ensures in
    elim c.if-not-is_empty.branch [
      | then-not-is_empty w ↦
          let some : 0 < length rest = search rules in
          let first = takes_more start before text (chunk rest) _ _ _ _ _ _ was w.write_chunk.ensures.sent w.write_chunk.ensures.later w.write_chunk.ensures.rose in
          let now = (rw (← w.sink-is, ← w.failed-is) at first) in
          subst (λ (t : List ℕ). HasTaken start before t c.write_end.new.failed (g.K.Sink.taken c.write_end.new.sink) (g.K.Sink.faults c.write_end.new.sink)) (rest_left rest text some)
          (takes_more start before (text ++ chunk rest) end_mark _ _ _ _ _ _ now e.sent e.later e.rose)
      | else-not-is_empty w ↦
          let none : length rest ≡ 0 = search rules in
          let now = (rw (← w.sink-is, ← w.failed-is) at was) in
          subst (λ (t : List ℕ). HasTaken start before t c.write_end.new.failed (g.K.Sink.taken c.write_end.new.sink) (g.K.Sink.faults c.write_end.new.sink)) (no_rest rest text none)
          (takes_more start before text end_mark _ _ _ _ _ _ now e.sent e.later e.rose)
    ]
