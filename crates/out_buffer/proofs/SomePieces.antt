-- Pieces that have bytes.
use Rattle.std.proofs.Common.{◌≡◌, ◌<◌, ◌≤◌, ◌+◌, ◌-◌, ◌*◌, ℕ, zero, suc, Bool, true, false, List, [], ◌∷◌, ◌++◌, length, take, drop, nat_le, Option, Some, None, Ok, Err, IfOk, if◌then◌else◌, arith}
use Rattle.std.specs.Prelude.{All}
use Rattle.std.proofs.lemmas.List.{length-drop, length-take}
use Rattle.std.proofs.lemmas.List.Elements.{All-append, All-cons}
use Rattle.std.proofs.lemmas.Nat.{div-add-mod'}
use Rattle.pg_value.specs.declared.fault.RunFault.{RunFault}
use Rattle.pg_value.specs.declared.fault.RunFault.TheVariants.{BufferOverflow}
use Rattle.out_buffer.specs.Laws.{IsWithin}
use Rattle.out_buffer.specs.Writer.{Writer, flushed, flushed_over, front_pieces, piece_of, pieces_over, written}

-- each has bytes
abbrev pub AllSome : List (List ℕ) → Type 0
AllSome pieces = All (λ (piece : List ℕ). 0 < length piece) pieces

no_pieces : AllSome []
no_pieces = λ k d below. absurd (omega arith)

one_more : (piece : List ℕ) (pieces : List (List ℕ)) → 0 < length piece → AllSome pieces → AllSome (piece ∷ pieces)
one_more piece pieces some others = All-cons (λ (p : List ℕ). 0 < length p) piece pieces some others

both : (pieces more : List (List ℕ)) → AllSome pieces → AllSome more → AllSome (pieces ++ more)
both pieces more first second = All-append (λ (p : List ℕ). 0 < length p) pieces more first second

piece_some : (bytes : List ℕ) → AllSome (piece_of bytes)
piece_some [] = no_pieces
piece_some (b ∷ bytes) = one_more (b ∷ bytes) [] (omega arith) no_pieces

front_some : (count size : ℕ) (bytes : List ℕ) → 0 < size → count * size ≤ length bytes → AllSome (front_pieces count size bytes)
front_some zero size bytes some within = no_pieces
front_some (suc count) size bytes some within =
    let round : suc count * size ≡ size + count * size = Prim.grind arith in
    one_more (take size bytes) (front_pieces count size (drop size bytes)) (let l = length-take size bytes in omega arith)
    (front_some count size (drop size bytes) some (let l = length-drop size bytes in omega arith))

-- so many pieces are there
pieces_within : (size total : ℕ) → pieces_over size total * size ≤ total
pieces_within size total = let parts = div-add-mod' (total - 1) size in omega arith

-- what is put behind the output
pub written_some : (size : Option ℕ) (bytes : List ℕ) (w : Writer) → IsWithin size w.buffer → AllSome w.pieces → IfOk (written size bytes w) (λ after. AllSome after.pieces)
written_some None bytes w within so_far = both w.pieces (piece_of bytes) so_far (piece_some bytes)
written_some (Some size) bytes w within so_far = go (nat_le (length total) size) w.autoflush
  where
    total : List ℕ
    total = w.buffer ++ bytes

    go : (fits flushes : Bool)
        → IfOk {T = Writer} {E = RunFault} (if fits then Ok (record w { buffer = total }) else (if flushes then Ok (flushed_over size total w) else Err BufferOverflow)) (λ after. AllSome after.pieces)
    go true flushes = so_far
    go false false = tt
    go false true =
        both w.pieces (front_pieces (pieces_over size (length total)) size total) so_far (front_some (pieces_over size (length total)) size total within.0 (pieces_within size (length total)))

-- a flush
pub flushed_some : (kept : List (List ℕ)) (w : Writer) → AllSome w.pieces → AllSome (flushed kept w).pieces
flushed_some [] w so_far = both w.pieces (piece_of w.buffer) so_far (piece_some w.buffer)
flushed_some (body ∷ outer) w so_far = so_far
