-- What bytes make of a buffer.
use Rattle.std.proofs.Common.{◌≡◌, ◌<◌, ◌≤◌, ℕ, true, List, [], length, Option, Some, None, Ok, refl, ap, arith}
use Rattle.std.proofs.lemmas.Bool.{le-leb, lt-leb}
use Rattle.out_buffer.specs.Writer.{Writer, buffered, flushed_over}
use Rattle.out_buffer.specs.Laws.{IsWithin}

-- they fit
pub fits : (size : ℕ) (bytes : List ℕ) (w : Writer) → length bytes ≤ size → buffered size bytes w ≡ Ok (record w { buffer = bytes })
fits size bytes w within = rw (le-leb (length bytes) size within) refl

-- they don't, and are flushed
pub overflows : (size : ℕ) (bytes : List ℕ) (w : Writer) → size < length bytes → w.autoflush ≡ true → buffered size bytes w ≡ Ok (flushed_over size bytes w)
overflows size bytes w over flushes = rw (lt-leb (length bytes) size over, flushes) refl

-- an empty buffer is within any size
pub within_empty : (size : Option ℕ) (old new : List ℕ) → IsWithin size old → new ≡ [] → IsWithin size new
within_empty None old new was empty = empty
within_empty (Some size) old new was empty = (was.0, (let e = ap length empty in omega arith))
