-- What a buffer stands for, for proofs alone.
use Rattle.std.specs.Prelude.{ℕ, List}
use Rattle.out_buffer.specs.Writer.{Writer}
use Rattle.out_buffer.specs.declared.buffer.Buffer.{Buffer}

-- a writer with this buffer
abbrev pub writer_at : Buffer → List (List ℕ) → ℕ → List (List ℕ) → Writer
writer_at buffer pieces count kept = record { pieces = pieces; buffer = buffer.bytes.items; size = buffer.size; autoflush = buffer.autoflush; count = count; kept = kept }
