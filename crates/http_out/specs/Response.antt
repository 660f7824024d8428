-- The wire of a response.
use Rattle.std.specs.Prelude.{◌≡◌, ℕ, Bool, true, false, List, [], ◌∷◌, ◌++◌, length, flat_map, codes, if◌then◌else◌}
use Rattle.std.specs.Fmt.{digits}
use Rattle.http_out.specs.declared.head.Head.{Head}
use Rattle.http_out.specs.declared.status.Status.{Status}
use Rattle.http_out.specs.declared.status.Status.TheVariants.{ServiceUnavailable}
use Rattle.http_out.specs.Head.{head_text, sized, chunked, plain_head}

-- a response: the pieces of its body that were committed while it was made, the rest behind them, and whether it broke off unfinished
pub record Response : Type 0 where
  pub head : Head
  pub pieces : List (List ℕ)
  pub rest : List ℕ
  pub broken : Bool

-- one chunk: its length in lower-case hexadecimal digits, and the piece
unfoldable pub chunk : List ℕ → List ℕ
chunk piece = digits 16 false (length piece) ++ codes "\r\n" ++ piece ++ codes "\r\n"

-- the end of a body in chunks
abbrev pub end_mark : List ℕ
end_mark = codes "0\r\n\r\n"

-- the last chunk, where something is left for it
abbrev pub last_chunk : List ℕ → List ℕ
last_chunk [] = []
last_chunk (b ∷ rest) = chunk (b ∷ rest)

-- the field for the length: it is known where nothing was committed
abbrev pub length_field : List (List ℕ) → List ℕ → List ℕ
length_field [] rest = sized (length rest)
length_field (piece ∷ pieces) rest = chunked

-- the body as it is sent: as it is where nothing was committed, else in chunks, which have an end unless the response broke off
abbrev pub body_text : List (List ℕ) → List ℕ → Bool → List ℕ
body_text [] rest broken = rest
body_text (piece ∷ pieces) rest broken = flat_map chunk (piece ∷ pieces) ++ (if broken then [] else last_chunk rest ++ end_mark)

-- the bytes of a response; where the body isn't shown, as for HEAD, they are the head alone
abbrev pub wire : Response → Bool → List ℕ
wire response shown =
    head_text response.head (length_field response.pieces response.rest) ++ (if shown then body_text response.pieces response.rest response.broken else [])

-- a response of one piece
unfoldable pub whole : Head → List ℕ → Bool → List ℕ
whole head body shown = head_text head (sized (length body)) ++ (if shown then body else [])

-- the head of a response in chunks
unfoldable pub opening : Head → List ℕ
opening head = head_text head chunked

-- a plain answer of one line
abbrev pub plain : Status → Bool → List ℕ → Bool → List ℕ
plain status close line shown = whole (plain_head status close) (line ++ codes "\n") shown

-- the plain answer that memory ran out
unfoldable pub no_memory : Bool → Bool → List ℕ
no_memory close shown = plain ServiceUnavailable close (codes "NoMemory") shown

-- what is written of a response, part by part, is its wire
pub record PartsJoin : Type 0 where
  -- where nothing was committed, it is written whole
  pub at_once : (head : Head) (body : List ℕ) (broken shown : Bool) → wire (record { head = head; pieces = []; rest = body; broken = broken }) shown ≡ whole head body shown
  -- else its head is written, and each piece as a chunk; then comes the last chunk, where something is left, and the end
  pub in_chunks : (head : Head) (piece : List ℕ) (pieces : List (List ℕ)) (rest : List ℕ)
      → wire (record { head = head; pieces = piece ∷ pieces; rest = rest; broken = false }) true ≡ opening head ++ (flat_map chunk (piece ∷ pieces) ++ (last_chunk rest ++ end_mark))
  -- one that breaks off stops behind its pieces
  pub broken : (head : Head) (piece : List ℕ) (pieces : List (List ℕ)) (rest : List ℕ)
      → wire (record { head = head; pieces = piece ∷ pieces; rest = rest; broken = true }) true ≡ opening head ++ flat_map chunk (piece ∷ pieces)
  -- to HEAD it is the head
  pub alone : (head : Head) (piece : List ℕ) (pieces : List (List ℕ)) (rest : List ℕ) (broken : Bool)
      → wire (record { head = head; pieces = piece ∷ pieces; rest = rest; broken = broken }) false ≡ opening head
