-- What a page has written, and what each call makes of it.
use Rattle.std.specs.Prelude.{ℕ, zero, suc, ◌+◌, ◌-◌, ◌*◌, ◌/◌, Bool, true, false, List, [], ◌∷◌, ◌++◌, length, take, drop, nat_lt, nat_le, Option, Some, None, Result, Ok, Err, if◌then◌else◌}
use Rattle.pg_value.specs.Datum.{text}
use Rattle.pg_value.specs.Limits.{is_over}
use Rattle.pg_value.specs.declared.fault.RunFault.{RunFault}
use Rattle.pg_value.specs.declared.fault.RunFault.TheVariants.{BufferOverflow, OutputTooLong, ValueTooLarge}
use Rattle.out_buffer.specs.declared.writer.TheConstants.{MAX_OUTPUT_BYTES}

-- the pieces that were committed, the buffer, its size, which is None where there is no buffer, whether the buffer is flushed where
-- it is full, the number of bytes put so far, and the kept bodies, the innermost first
pub record Writer : Type 0 where
  pub pieces : List (List ℕ)
  pub buffer : List ℕ
  pub size : Option ℕ
  pub autoflush : Bool
  pub count : ℕ
  pub kept : List (List ℕ)

-- a writer that has written nothing
abbrev pub empty_writer : Option ℕ → Bool → Writer
empty_writer size autoflush = record { pieces = []; buffer = []; size = size; autoflush = autoflush; count = 0; kept = [] }

-- how many bytes may be put
unfoldable pub put_limit : ℕ
put_limit = MAX_OUTPUT_BYTES

-- whether there are pieces
abbrev pub has_pieces : List (List ℕ) → Bool
has_pieces [] = false
has_pieces (piece ∷ pieces) = true

-- whether something was committed
abbrev pub has_committed : Writer → Bool
has_committed w = has_pieces w.pieces

-- so many pieces of this size from the front of the bytes
abbrev pub front_pieces : ℕ → ℕ → List ℕ → List (List ℕ)
front_pieces zero size bytes = []
front_pieces (suc n) size bytes = take size bytes ∷ front_pieces n size (drop size bytes)

-- how many pieces of this size stand before the last 1 to size of so many bytes
abbrev pub pieces_over : ℕ → ℕ → ℕ
pieces_over size total = (total - 1) / size

-- with these bytes in a buffer of this size: what is over it commits in pieces of the size, all but the last 1 to size bytes
abbrev pub flushed_over : ℕ → List ℕ → Writer → Writer
flushed_over size bytes w =
    record w { pieces = w.pieces ++ front_pieces (pieces_over size (length bytes)) size bytes; buffer = drop (pieces_over size (length bytes) * size) bytes }

-- with the bytes in its buffer, which has this size: what doesn't fit is flushed, or else it is a fault
abbrev pub buffered : ℕ → List ℕ → Writer → Result Writer RunFault
buffered size bytes w =
    if nat_le (length bytes) size then Ok (record w { buffer = bytes })
    else (if w.autoflush then Ok (flushed_over size bytes w) else Err BufferOverflow)

-- a piece, where it has bytes
abbrev pub piece_of : List ℕ → List (List ℕ)
piece_of [] = []
piece_of (b ∷ bytes) = (b ∷ bytes) ∷ []

-- with the bytes behind its output, where no body is kept
abbrev pub written : Option ℕ → List ℕ → Writer → Result Writer RunFault
written None bytes w = Ok (record w { pieces = w.pieces ++ piece_of bytes })
written (Some size) bytes w = buffered size (w.buffer ++ bytes) w

-- with the bytes behind the innermost kept body, or else behind its output
abbrev pub placed : List (List ℕ) → List ℕ → Writer → Result Writer RunFault
placed [] bytes w = written w.size bytes w
placed (body ∷ outer) bytes w = Ok (record w { kept = (body ++ bytes) ∷ outer })

-- with the bytes put: it is a fault where they are too many, kept ones too, or where the buffer overflows
abbrev pub put : List ℕ → Writer → Result Writer RunFault
put bytes w = if nat_lt put_limit (w.count + length bytes) then Err OutputTooLong else placed w.kept bytes (record w { count = w.count + length bytes })

-- with its buffer committed as one piece, where the buffer isn't empty and no body is kept
abbrev pub flushed : List (List ℕ) → Writer → Writer
flushed [] w = record w { pieces = w.pieces ++ piece_of w.buffer; buffer = [] }
flushed (body ∷ outer) w = w

-- after a flush
abbrev pub flush : Writer → Writer
flush w = flushed w.kept w

-- with an empty buffer and no kept bodies
abbrev pub cleared : Writer → Writer
cleared w = record w { buffer = []; kept = [] }

-- with a body kept from here on
abbrev pub with_body : Writer → Writer
with_body w = record w { kept = [] ∷ w.kept }

-- the innermost kept body
abbrev pub innermost : List (List ℕ) → List ℕ
innermost [] = []
innermost (body ∷ outer) = body

-- the kept bodies around the innermost one
abbrev pub around : List (List ℕ) → List (List ℕ)
around [] = []
around (body ∷ outer) = outer

-- without the innermost kept body
abbrev pub without_body : Writer → Writer
without_body w = record w { kept = around w.kept }

-- what is answered where this body is taken: its text, or a fault where that is too large
abbrev pub body_answer : List ℕ → Result (List ℕ) RunFault
body_answer body = if is_over (text body) then Err ValueTooLarge else Ok body

-- the last so many of a list
abbrev pub last_of : {A : Type 0} → ℕ → List A → List A
last_of n items = drop (length items - n) items

-- with so many kept bodies alone, the outermost ones
abbrev pub with_bodies : ℕ → Writer → Writer
with_bodies n w = record w { kept = last_of n w.kept }
