-- How a response in chunks goes on.
use Rattle.std.proofs.Common.{◌≡◌, ◌≤◌, ◌<◌, length, ℕ, Bool, true, false, List, [], ◌∷◌, ◌++◌, Option, refl, sym, ap, append-nil, append_assoc, arith}
use Rattle.std.proofs.lemmas.List.{flat_map_more}
use Rattle.std.specs.Prelude.{flat_map}
use Rattle.edges.specs.Faults.{Rose}
use Rattle.http_out.specs.Response.{chunk, opening, last_chunk, end_mark, whole, wire}
use Rattle.http_out.specs.Sent.{Sent}
use Rattle.http_out.specs.declared.head.Head.{Head}
use Rattle.out_buffer.specs.Streamed.{opened, so_far, HasTaken}
use Rattle.out_buffer.specs.Writer.{has_pieces, piece_of}
use Rattle.out_buffer.specs.ReadStream.{Streams, HasBegun}
use Rattle.out_buffer.specs.declared.stream.Stream.{Stream}

-- more goes to the sink behind a text
pub takes_more : (start : Option (List ℕ)) (before : ℕ) (text more : List ℕ) (failed failed2 : Bool) (taken taken2 : Option (List ℕ)) (faults faults2 : ℕ) → HasTaken start before text failed taken faults
    → ((old : Option (List ℕ)) (t : List ℕ) → Sent old taken t failed → Sent old taken2 (t ++ more) failed2) → faults ≤ faults2
    → ((b : ℕ) → b ≤ faults → (failed ≡ true → Rose b faults) → failed2 ≡ true → Rose b faults2) → HasTaken start before (text ++ more) failed2 taken2 faults2
takes_more start before text more failed failed2 taken taken2 faults faults2 was sent later rose = record {
  sent = sent start text was.sent;
  later = (let l : before ≤ faults = was.later in omega arith);
  cause = rose before was.later was.cause;
}

-- before the first piece nothing was written, and behind the head stands nothing yet
pub begun : (head : Head) (shown : Bool) (pieces : List (List ℕ)) → false ≡ has_pieces pieces → so_far head shown pieces ++ opening head ≡ opened head shown pieces
begun head true [] none = sym (append-nil (opening head))
begun head false [] none = sym (append-nil (opening head))
begun head shown (piece ∷ pieces) none = absurd (cc)

-- behind a first piece the head was written
pub is_begun : (start : Option (List ℕ)) (before : ℕ) (stream : Stream) (taken : Option (List ℕ)) (faults : ℕ) (pieces : List (List ℕ)) → stream.committed ≡ true → Streams start before stream taken faults pieces
    → HasBegun start before stream taken faults pieces
is_begun start before stream taken faults [] committed was = (let none : stream.committed ≡ false = was.committed in absurd (cc))
is_begun start before stream taken faults (piece ∷ pieces) committed was = record { committed = committed; streamed = was.streamed }

-- a chunk more
pub chunk_more : (head : Head) (pieces : List (List ℕ)) (piece : List ℕ) → opened head true pieces ++ chunk piece ≡ opened head true (pieces ++ piece ∷ [])
chunk_more head pieces piece = flat_map_more chunk (opening head) pieces piece

-- there are pieces where one stands behind others
pub has_last : (pieces more : List (List ℕ)) (piece : List ℕ) → has_pieces (pieces ++ piece ∷ more) ≡ true
has_last [] more piece = refl
has_last (first ∷ pieces) more piece = refl

-- pieces that stand behind the head were committed
pub streams : (start : Option (List ℕ)) (before : ℕ) (stream : Stream) (taken : Option (List ℕ)) (faults : ℕ) (pieces : List (List ℕ)) → has_pieces pieces ≡ true
    → HasBegun start before stream taken faults pieces → Streams start before stream taken faults pieces
streams start before stream taken faults [] some was = absurd (cc)
streams start before stream taken faults (first ∷ pieces) some was = record { committed = was.committed; streamed = was.streamed }

-- the last chunk, where something is left, and the end
pub rest_left : (rest : List ℕ) (text : List ℕ) → 0 < length rest → (text ++ chunk rest) ++ end_mark ≡ text ++ (last_chunk rest ++ end_mark)
rest_left [] text some = absurd (omega arith)
rest_left (b ∷ rest) text some = append_assoc text (chunk (b ∷ rest)) end_mark

-- the end alone, where nothing is left
pub no_rest : (rest : List ℕ) (text : List ℕ) → length rest ≡ 0 → text ++ end_mark ≡ text ++ (last_chunk rest ++ end_mark)
no_rest [] text none = refl
no_rest (b ∷ rest) text none = absurd (omega arith)

-- a piece that has bytes
pub some_piece : (bytes : List ℕ) → 0 < length bytes → piece_of bytes ≡ bytes ∷ []
some_piece [] some = absurd (omega arith)
some_piece (b ∷ bytes) some = refl

-- a response of no pieces is written whole
pub at_once : (head : Head) (pieces : List (List ℕ)) (rest : List ℕ) (broken shown : Bool) → has_pieces pieces ≡ false
    → so_far head shown pieces ++ whole head rest shown ≡ wire (record { head = head; pieces = pieces; rest = rest; broken = broken }) shown
unfolding whole
at_once head [] rest broken shown none = refl
at_once head (piece ∷ pieces) rest broken shown none = absurd (cc)

-- behind its pieces stand the rest and the end
pub ended : (head : Head) (pieces : List (List ℕ)) (rest : List ℕ) → has_pieces pieces ≡ true
    → so_far head true pieces ++ (last_chunk rest ++ end_mark) ≡ wire (record { head = head; pieces = pieces; rest = rest; broken = false }) true
unfolding opening
ended head [] rest some = absurd (cc)
ended head (piece ∷ pieces) rest some = append_assoc (opening head) (flat_map chunk (piece ∷ pieces)) (last_chunk rest ++ end_mark)

-- one that breaks off ends behind its pieces
pub broken_off : (head : Head) (pieces : List (List ℕ)) (rest : List ℕ) → has_pieces pieces ≡ true
    → so_far head true pieces ≡ wire (record { head = head; pieces = pieces; rest = rest; broken = true }) true
unfolding opening
broken_off head [] rest some = absurd (cc)
broken_off head (piece ∷ pieces) rest some = ap (λ text. opening head ++ text) (sym (append-nil (flat_map chunk (piece ∷ pieces))))

-- one whose body isn't shown ends behind its head
pub head_alone : (head : Head) (pieces : List (List ℕ)) (rest : List ℕ) (broken : Bool) → has_pieces pieces ≡ true
    → so_far head false pieces ≡ wire (record { head = head; pieces = pieces; rest = rest; broken = broken }) false
unfolding opening
head_alone head [] rest broken some = absurd (cc)
head_alone head (piece ∷ pieces) rest broken some = refl

-- where nothing was committed, nothing was written, and the sink didn't fail
pub nothing_yet : (start : Option (List ℕ)) (before : ℕ) (head : Head) (shown : Bool) (pieces : List (List ℕ)) (failed : Bool) (taken : Option (List ℕ)) (faults : ℕ) → has_pieces pieces ≡ false
    → HasTaken start before (so_far head shown pieces) failed taken faults → (pieces ≡ []) × HasTaken start before [] false taken faults
nothing_yet start before head shown (piece ∷ pieces) failed taken faults none was = absurd (cc)
nothing_yet start before head shown [] false taken faults none was = (refl, was)
nothing_yet start before head shown [] true taken faults none was = absurd (let no : was.sent.0 < 0 = was.sent.1 in omega arith)
