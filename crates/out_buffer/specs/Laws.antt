-- Laws of what a page has written.
use Rattle.std.specs.Prelude.{◌≡◌, ◌<◌, ◌≤◌, ℕ, List, [], ◌++◌, length, flat_map, All, Option, Some, None, IfOk}
use Rattle.out_buffer.specs.Writer.{Writer, flush, put}

-- a buffer is within its size, which isn't 0; where there is no buffer nothing is in it
abbrev pub IsWithin : Option ℕ → List ℕ → Type 0
IsWithin None buffer = buffer ≡ []
IsWithin (Some size) buffer = (0 < size) × (length buffer ≤ size)

-- all that was written behind one another: the committed pieces, and the buffer
abbrev pub output : Writer → List ℕ
output w = flat_map (λ (piece : List ℕ). piece) w.pieces ++ w.buffer

-- no byte is lost, added or moved
pub record OutputIsKept : Type 0 where
  -- what is put outside of kept bodies comes behind all that was written before
  pub put_behind : (bytes : List ℕ) (w : Writer) → IsWithin w.size w.buffer → w.kept ≡ [] → IfOk (put bytes w) (λ after. output after ≡ output w ++ bytes)
  -- and leaves the buffer within its size
  pub within : (bytes : List ℕ) (w : Writer) → IsWithin w.size w.buffer → IfOk (put bytes w) (λ after. IsWithin w.size after.buffer)
  -- a flush changes nothing of it
  pub flushed : (w : Writer) → output (flush w) ≡ output w

-- what was committed stands, and more pieces come behind it
pub record PiecesGrow : Type 0 where
  pub put_more : (bytes : List ℕ) (w : Writer) → IfOk (put bytes w) (λ after. (more : List (List ℕ)) × (after.pieces ≡ w.pieces ++ more))
  pub flushed : (w : Writer) → (more : List (List ℕ)) × ((flush w).pieces ≡ w.pieces ++ more)

-- no committed piece is empty: an empty chunk would end the body
pub record NoPieceIsEmpty : Type 0 where
  pub put_some : (bytes : List ℕ) (w : Writer) → IsWithin w.size w.buffer → All (λ piece. 0 < length piece) w.pieces → IfOk (put bytes w) (λ after. All (λ piece. 0 < length piece) after.pieces)
  pub flushed : (w : Writer) → All (λ piece. 0 < length piece) w.pieces → All (λ piece. 0 < length piece) (flush w).pieces
