-- What a stream and its sink stand for, for proofs alone.
use Rattle.std.specs.Prelude.{◌≡◌, ℕ, true, List, Option}
use Rattle.out_buffer.specs.Streamed.{opened, so_far, HasTaken}
use Rattle.out_buffer.specs.Writer.{has_pieces}
use Rattle.out_buffer.specs.declared.stream.Stream.{Stream}

-- these pieces were committed
pub record Streams (start : Option (List ℕ)) (before : ℕ) (stream : Stream) (taken : Option (List ℕ)) (faults : ℕ) (pieces : List (List ℕ)) : Type 0 where
  pub committed : stream.committed ≡ has_pieces pieces
  pub streamed : HasTaken start before (so_far stream.head stream.shown pieces) stream.failed taken faults

-- the head was written, and these pieces, of which there may be none yet
pub record HasBegun (start : Option (List ℕ)) (before : ℕ) (stream : Stream) (taken : Option (List ℕ)) (faults : ℕ) (pieces : List (List ℕ)) : Type 0 where
  pub committed : stream.committed ≡ true
  pub streamed : HasTaken start before (opened stream.head stream.shown pieces) stream.failed taken faults
