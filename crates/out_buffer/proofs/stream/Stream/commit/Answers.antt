use Rattle.std.proofs.Common.{◌<◌, ◌∷◌, ◌++◌, [], length, rules}
use Rattle.out_buffer.proofs.StreamLemmas.{has_last, some_piece, streams}
use Rattle.out_buffer.proofs.stream.Stream.commit.Goals as goal

pub returns-clause-sent : goal.returns-clause-sent
returns-clause-sent g c = λ start before pieces was.
    let bytes = c.args.bytes.now in
    let some : 0 < length bytes = search rules in
    let behind = c.send.ensures.sent start before pieces (c.in_ok-begin.ensures.sent start before pieces was) in
    rw (some_piece bytes some) (streams start before c.send.new.self (g.K.Sink.taken c.send.new.sink) (g.K.Sink.faults c.send.new.sink) (pieces ++ bytes ∷ []) (has_last pieces [] bytes) behind)
