-- What a put makes of a writer.
use Rattle.std.proofs.Common.{◌≡◌, ◌<◌, ◌≤◌, ◌+◌, ◌++◌, ◌∷◌, ℕ, List, [], length, Result, Ok, Err, refl, ◌∙◌, arith}
use Rattle.std.proofs.lemmas.Bool.{le-ltb, lt-ltb}
use Rattle.pg_value.specs.declared.fault.RunFault.{RunFault}
use Rattle.pg_value.specs.declared.fault.RunFault.TheVariants.{OutputTooLong}
use Rattle.pg_text.specs.declared.failure.Failure.{Failure}
use Rattle.pg_text.specs.declared.failure.Failure.TheVariants.{NoMemory, Fault}
use Rattle.out_buffer.specs.Held.{Comes}
use Rattle.out_buffer.specs.Writer.{Writer, around, flush, innermost, piece_of, placed, put, put_limit, written}

-- too many bytes are put
pub put_too_much : (bytes : List ℕ) (w : Writer) → 16777216 < w.count + length bytes → put bytes w ≡ Err OutputTooLong
unfolding put_limit
put_too_much bytes w over = rw (lt-ltb 16777216 (w.count + length bytes) over) refl

-- they aren't too many
pub put_placed : (bytes : List ℕ) (w : Writer) → w.count + length bytes ≤ 16777216 → put bytes w ≡ placed w.kept bytes (record w { count = w.count + length bytes })
unfolding put_limit
put_placed bytes w within = rw (le-ltb 16777216 (w.count + length bytes) within) refl

-- no body is kept
pub placed_out : (kept : List (List ℕ)) (bytes : List ℕ) (w : Writer) → length kept ≡ 0 → placed kept bytes w ≡ written w.size bytes w
placed_out [] bytes w none = refl
placed_out (body ∷ outer) bytes w none = absurd (omega arith)

-- a body is kept
pub placed_within : (kept : List (List ℕ)) (bytes : List ℕ) (w : Writer) → 0 < length kept → placed kept bytes w ≡ Ok (record w { kept = (innermost kept ++ bytes) ∷ around kept })
placed_within [] bytes w some = absurd (omega arith)
placed_within (body ∷ outer) bytes w some = refl

-- a flush where no body is kept
pub flush_out : (kept : List (List ℕ)) (w : Writer) → w.kept ≡ kept → length kept ≡ 0 → flush w ≡ record w { pieces = w.pieces ++ piece_of w.buffer; buffer = [] }
flush_out [] w is none = rw is refl
flush_out (body ∷ outer) w is none = absurd (omega arith)

-- a fault that is passed on
pub fault_passes : (expected meant : Result Writer RunFault) (failure : Failure RunFault) (P Q : Writer → Type 0) → meant ≡ expected → Comes expected (Err failure) P → Comes meant (Err failure) Q
fault_passes expected meant NoMemory P Q is comes = tt
fault_passes expected meant (Fault fault) P Q is comes = is ∙ comes
