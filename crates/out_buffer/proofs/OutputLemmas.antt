-- What puts and flushes leave of all that was written.
use Rattle.std.proofs.Common.{◌≡◌, ◌<◌, ◌≤◌, ◌+◌, ◌-◌, ◌*◌, ◌%◌, ℕ, zero, suc, Bool, true, false, List, [], ◌∷◌, ◌++◌, length, take, drop, nat_le, Option, Some, None, Result, Ok, Err, IfOk, if◌then◌else◌, refl, sym, ap, ◌∙◌, append-nil, append_assoc, arith}
use Rattle.std.specs.Prelude.{flat_map}
use Rattle.std.proofs.lemmas.Bool.{leb-true}
use Rattle.std.proofs.lemmas.Grind.{flat_map-append}
use Rattle.std.proofs.lemmas.List.{drop-drop, length-drop, take-append-drop}
use Rattle.std.proofs.lemmas.Nat.{div-add-mod', mod_below}
use Rattle.pg_value.specs.declared.fault.RunFault.{RunFault}
use Rattle.pg_value.specs.declared.fault.RunFault.TheVariants.{BufferOverflow, OutputTooLong}
use Rattle.out_buffer.specs.Laws.{IsWithin, output}
use Rattle.out_buffer.specs.Writer.{Writer, flushed, flushed_over, front_pieces, piece_of, pieces_over, placed, written}

-- the pieces from the front and what is left are the bytes
front_and_rest : (count size : ℕ) (bytes : List ℕ) → flat_map (λ (piece : List ℕ). piece) (front_pieces count size bytes) ++ drop (count * size) bytes ≡ bytes
front_and_rest zero size bytes = ap (λ n. drop n bytes) (let e : 0 * size ≡ 0 = omega arith in e)
front_and_rest (suc count) size bytes =
    append_assoc (take size bytes) (flat_map (λ (piece : List ℕ). piece) (front_pieces count size (drop size bytes))) (drop (suc count * size) bytes)
    ∙ ap (λ rest. take size bytes ++ (flat_map (λ (piece : List ℕ). piece) (front_pieces count size (drop size bytes)) ++ rest))
    (ap (λ n. drop n bytes) (let e : suc count * size ≡ size + count * size = Prim.grind arith in e) ∙ sym (drop-drop (count * size) size bytes))
    ∙ ap (λ rest. take size bytes ++ rest) (front_and_rest count size (drop size bytes))
    ∙ take-append-drop size bytes

-- a piece of bytes is the bytes
piece_joined : (bytes : List ℕ) → flat_map (λ (piece : List ℕ). piece) (piece_of bytes) ≡ bytes
piece_joined [] = refl
piece_joined (b ∷ bytes) = append-nil (b ∷ bytes)

-- at most a whole buffer is left of so many bytes
left_within : (size total : ℕ) → 0 < size → total - pieces_over size total * size ≤ size
left_within size total some =
    let parts = div-add-mod' (total - 1) size in
    let last : (total - 1) % size < size = mod_below (total - 1) size some in
    omega arith

-- what is put behind the output
pub written_behind : (size : Option ℕ) (bytes : List ℕ) (w : Writer) → IsWithin size w.buffer → IfOk (written size bytes w) (λ after. output after ≡ output w ++ bytes)
written_behind None bytes w empty =
    let pieces = flat_map (λ (piece : List ℕ). piece) w.pieces in
    rw empty
    (ap (λ out. out ++ []) (flat_map-append (λ (piece : List ℕ). piece) w.pieces (piece_of bytes) ∙ ap (λ out. pieces ++ out) (piece_joined bytes))
    ∙ append-nil (pieces ++ bytes) ∙ ap (λ out. out ++ bytes) (sym (append-nil pieces)))
written_behind (Some size) bytes w within = go (nat_le (length total) size) w.autoflush
  where
    total : List ℕ
    total = w.buffer ++ bytes

    pieces : List ℕ
    pieces = flat_map (λ (piece : List ℕ). piece) w.pieces

    count : ℕ
    count = pieces_over size (length total)

    go : (fits flushes : Bool)
        → IfOk {T = Writer} {E = RunFault} (if fits then Ok (record w { buffer = total }) else (if flushes then Ok (flushed_over size total w) else Err BufferOverflow)) (λ after. output after ≡ output w ++ bytes)
    go true flushes = sym (append_assoc pieces w.buffer bytes)
    go false false = tt
    go false true =
        ap (λ out. out ++ drop (count * size) total) (flat_map-append (λ (piece : List ℕ). piece) w.pieces (front_pieces count size total))
        ∙ append_assoc pieces (flat_map (λ (piece : List ℕ). piece) (front_pieces count size total)) (drop (count * size) total)
        ∙ ap (λ out. pieces ++ out) (front_and_rest count size total)
        ∙ sym (append_assoc pieces w.buffer bytes)

-- the buffer stays within its size
pub written_within : (size : Option ℕ) (bytes : List ℕ) (w : Writer) → IsWithin size w.buffer → IfOk (written size bytes w) (λ after. IsWithin size after.buffer)
written_within None bytes w empty = empty
written_within (Some size) bytes w within = go (nat_le (length total) size) refl w.autoflush
  where
    total : List ℕ
    total = w.buffer ++ bytes

    go : (fits : Bool) → nat_le (length total) size ≡ fits → (flushes : Bool)
        → IfOk {T = Writer} {E = RunFault} (if fits then Ok (record w { buffer = total }) else (if flushes then Ok (flushed_over size total w) else Err BufferOverflow)) (λ after. IsWithin (Some size) after.buffer)
    go true is flushes = (within.0, leb-true (length total) size is)
    go false is false = tt
    go false is true = (within.0, (let left = left_within size (length total) within.0 in let l = length-drop (pieces_over size (length total) * size) total in omega arith))

-- more pieces come behind those that were committed
pub written_more : (size : Option ℕ) (bytes : List ℕ) (w : Writer) → IfOk (written size bytes w) (λ after. (more : List (List ℕ)) × (after.pieces ≡ w.pieces ++ more))
written_more None bytes w = (piece_of bytes, refl)
written_more (Some size) bytes w = go (nat_le (length total) size) w.autoflush
  where
    total : List ℕ
    total = w.buffer ++ bytes

    go : (fits flushes : Bool)
        → IfOk {T = Writer} {E = RunFault} (if fits then Ok (record w { buffer = total }) else (if flushes then Ok (flushed_over size total w) else Err BufferOverflow))
        (λ after. (more : List (List ℕ)) × (after.pieces ≡ w.pieces ++ more))
    go true flushes = ([], sym (append-nil w.pieces))
    go false false = tt
    go false true = (front_pieces (pieces_over size (length total)) size total, refl)

-- what holds of each placing that succeeds holds of each put
pub put_if_placed : (P : Writer → Type 0) (over : Bool) (result : Result Writer RunFault) → IfOk result P → IfOk (if over then Err OutputTooLong else result) P
put_if_placed P true result holds = tt
put_if_placed P false result holds = holds

-- where no body is kept it is written behind the output
pub placed_outside : (P : Writer → Type 0) (kept : List (List ℕ)) (bytes : List ℕ) (w : Writer) → kept ≡ [] → IfOk (written w.size bytes w) P → IfOk (placed kept bytes w) P
placed_outside P [] bytes w none out = out
placed_outside P (body ∷ outer) bytes w none out = absurd (cc)

-- where a body is kept the output stays
pub placed_stays : (P : Writer → Type 0) (kept : List (List ℕ)) (bytes : List ℕ) (w : Writer) → IfOk (written w.size bytes w) P → ((bodies : List (List ℕ)) → P (record w { kept = bodies })) → IfOk (placed kept bytes w) P
placed_stays P [] bytes w out within = out
placed_stays P (body ∷ outer) bytes w out within = within ((body ++ bytes) ∷ outer)

-- a flush
pub flushed_output : (kept : List (List ℕ)) (w : Writer) → output (flushed kept w) ≡ output w
flushed_output [] w =
    append-nil (flat_map (λ (piece : List ℕ). piece) (w.pieces ++ piece_of w.buffer)) ∙ flat_map-append (λ (piece : List ℕ). piece) w.pieces (piece_of w.buffer)
    ∙ ap (λ out. flat_map (λ (piece : List ℕ). piece) w.pieces ++ out) (piece_joined w.buffer)
flushed_output (body ∷ outer) w = refl

pub flushed_more : (kept : List (List ℕ)) (w : Writer) → (more : List (List ℕ)) × ((flushed kept w).pieces ≡ w.pieces ++ more)
flushed_more [] w = (piece_of w.buffer, refl)
flushed_more (body ∷ outer) w = ([], sym (append-nil w.pieces))
