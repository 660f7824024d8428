-- Bytes that come from a source in several calls.
use Rattle.std.proofs.Common.{List, ℕ, [], ◌++◌, Option, sym, subst, ap, ◌∙◌, append_assoc}
use Rattle.std.proofs.lemmas.List.{append-nil}
use Rattle.edges.proofs.ToldBytes.{consumes_both, consumes_none}
use Rattle.http_in.specs.Reading.{Moves, Saw}

-- no call moves nothing
pub moves_none : (left : Option (List ℕ)) (bytes : List ℕ) → Moves left left bytes bytes
moves_none left bytes = record { piece = []; consumed = consumes_none left; grown = sym (append-nil bytes) }

-- what two calls move
pub moves_both : (left between later : Option (List ℕ)) (old middle new : List ℕ) → Moves left between old middle → Moves between later middle new → Moves left later old new
moves_both left between later old middle new was more = record {
  piece = was.piece ++ more.piece;
  consumed = consumes_both left between later was.piece more.piece was.consumed more.consumed;
  grown = more.grown ∙ ap (λ front. front ++ more.piece) was.grown ∙ append_assoc old was.piece more.piece;
}

-- what the bytes have after a move was seen
pub saw : (left later : Option (List ℕ)) (old new : List ℕ) (P : List ℕ → Type 0) → Moves left later old new → P new → Saw left later old P
saw left later old new P moved holds = record { piece = moved.piece; consumed = moved.consumed; holds = subst P moved.grown holds }
