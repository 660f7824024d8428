use Rattle.std.proofs.Common.{◌≡◌, ◌*◌, ◌<◌, ◌≤◌, ◌++◌, true, ℕ, List, [], Option, length, drop, vec_capacity}
use Rattle.out_buffer.specs.ReadStream.{HasBegun, Streams}
use Rattle.out_buffer.specs.Writer.{front_pieces}
use Rattle.out_buffer.proofs.buffer.overflow.Given as goal

-- so many pieces were written from the front of all the bytes, and what is left of them is the rest
abbrev pub invariant-loop-rest : goal.invariant-loop-rest
invariant-loop-rest g l =
    let total : List ℕ = l.fn.buffer.items ++ l.fn.bytes in
    record {
      count : ℕ;
      within : count * l.size < length total;
      left : l.rest ≡ drop (count * l.size) total;
      some : 1 ≤ count;
      empty : l.buffer.items ≡ [];
      room : l.size ≤ vec_capacity l.buffer;
      same : l.stream ≡ record l.fn.stream { committed = true; failed = l.stream.failed };
      sent : (start : Option (List ℕ)) (before : ℕ) (pieces : List (List ℕ)) → Streams start before l.fn.stream (g.K.Sink.taken l.fn.sink) (g.K.Sink.faults l.fn.sink) pieces
          → HasBegun start before l.stream (g.K.Sink.taken l.sink) (g.K.Sink.faults l.sink) (pieces ++ front_pieces count l.size total);
      later : g.K.Sink.faults l.fn.sink ≤ g.K.Sink.faults l.sink;
    }

abbrev pub decreases-loop-rest : goal.decreases-loop-rest
decreases-loop-rest g l = length l.rest
