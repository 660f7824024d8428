-- Pieces of one size from the front of bytes.
use Rattle.std.proofs.Common.{◌≡◌, ◌<◌, ◌≤◌, ◌+◌, ◌-◌, ◌*◌, ◌/◌, ℕ, zero, suc, true, List, [], ◌∷◌, ◌++◌, length, take, drop, refl, sym, ap, ◌∙◌, arith}
use Rattle.std.proofs.Math.Seq.{take-append-add, drop-append-add}
use Rattle.std.proofs.lemmas.List.{drop-drop}
use Rattle.std.proofs.lemmas.Nat.{div-mul-add}
use Rattle.out_buffer.specs.Writer.{front_pieces, has_pieces, pieces_over}

-- one round more
pub round_more : (count size : ℕ) → (count + 1) * size ≡ count * size + size
round_more count size = Prim.grind arith

-- the first piece is filled from the bytes
pub first_piece : (buffer bytes : List ℕ) (size : ℕ) → length buffer ≤ size → buffer ++ take (size - length buffer) bytes ≡ take size (buffer ++ bytes)
first_piece buffer bytes size within =
    sym (take-append-add buffer bytes (size - length buffer)) ∙ ap (λ n. take n (buffer ++ bytes)) (let e : length buffer + (size - length buffer) ≡ size = omega arith in e)

-- and this is left of them
pub first_left : (buffer bytes : List ℕ) (size : ℕ) → length buffer ≤ size → drop (size - length buffer) bytes ≡ drop (1 * size) (buffer ++ bytes)
first_left buffer bytes size within =
    sym (drop-append-add buffer bytes (size - length buffer)) ∙ ap (λ n. drop n (buffer ++ bytes)) (let e : length buffer + (size - length buffer) ≡ 1 * size = omega arith in e)

-- one piece more leaves less
pub left_more : (count size : ℕ) (bytes : List ℕ) → drop size (drop (count * size) bytes) ≡ drop ((count + 1) * size) bytes
left_more count size bytes = drop-drop size (count * size) bytes ∙ ap (λ n. drop n bytes) (sym (round_more count size))

-- one piece more from the front
pub piece_more : (count size : ℕ) (bytes : List ℕ) → front_pieces count size bytes ++ take size (drop (count * size) bytes) ∷ [] ≡ front_pieces (count + 1) size bytes
piece_more zero size bytes = ap (λ n. take size (drop n bytes) ∷ []) (let e : 0 * size ≡ 0 = omega arith in e)
piece_more (suc count) size bytes =
    ap (λ pieces. take size bytes ∷ pieces)
    (ap (λ rest. front_pieces count size (drop size bytes) ++ take size rest ∷ []) (sym (drop-drop (count * size) size bytes ∙ ap (λ n. drop n bytes) (let e : size + count * size ≡ suc count * size = Prim.grind arith in e)))
    ∙ piece_more count size (drop size bytes))
    ∙ ap (λ n. front_pieces n size bytes) (let e : suc (count + 1) ≡ suc count + 1 = omega arith in e)

-- so many pieces stand before the last 1 to size bytes
pub all_pieces : (count size total : ℕ) → count * size < total → total - count * size ≤ size → count ≡ pieces_over size total
all_pieces count size total within last =
    let over : total - 1 ≡ count * size + (total - 1 - count * size) = omega arith in
    let below : total - 1 - count * size < size = omega arith in
    sym (ap (λ n. n / size) over ∙ div-mul-add count size (total - 1 - count * size) below)

-- there are pieces where one or more come from the front of bytes
pub has_front : (pieces : List (List ℕ)) (count size : ℕ) (bytes : List ℕ) → 1 ≤ count → has_pieces (pieces ++ front_pieces count size bytes) ≡ true
has_front (piece ∷ pieces) count size bytes some = refl
has_front [] zero size bytes some = absurd (omega arith)
has_front [] (suc count) size bytes some = refl
