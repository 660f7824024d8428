-- Reading from a source, whatever pieces its bytes come in.
use Rattle.std.specs.Prelude.{◌≡◌, ◌<◌, ◌+◌, ⊤, ℕ, List, ◌++◌, length, Option, Some, None, Result, Ok, Err}
use Rattle.pg_text.specs.declared.failure.Failure.{Failure}
use Rattle.pg_text.specs.declared.failure.Failure.TheVariants as failure
use Rattle.std.specs.Io.KnownBytes.{Consumes, IsAtEnd}
use Rattle.http_in.specs.declared.fault.HttpFault.{HttpFault}
use Rattle.http_in.specs.declared.fault.HttpFault.TheVariants as http
use Rattle.http_in.specs.declared.limits.TheConstants.{MAX_HEAD_BYTES, MAX_PIECE_BYTES}
use Rattle.http_in.specs.declared.request.Request.{Request}
use Rattle.http_in.specs.HeadEnd.{head_len, front_of}
use Rattle.http_in.specs.Requests.{StandsFirst, HasFault, IsEnd, IsCutOff, IsUnfinished}

-- a piece came from the source, and stands behind the bytes that were there
pub record Moves (left later : Option (List ℕ)) (old new : List ℕ) : Type 0 where
  pub piece : List ℕ
  pub consumed : Consumes left later piece
  pub grown : new ≡ old ++ piece

-- the bytes that were there, with a piece that came from the source behind them, have P
pub record Saw (left later : Option (List ℕ)) (old : List ℕ) (P : List ℕ → Type 0) : Type 0 where
  pub piece : List ℕ
  pub consumed : Consumes left later piece
  pub holds : P (old ++ piece)

-- what reading a request answers, by the bytes that it saw: those of old, and those that came. New is what it left of them: all of them, but for the request
abbrev pub Reads : Option (List ℕ) → Option (List ℕ) → List ℕ → List ℕ → Result (Option Request) (Failure HttpFault) → Type 0
Reads left later old new (Ok (Some request)) = Saw left later old (λ seen. StandsFirst seen request new)
Reads left later old new (Ok None) = Moves left later old new × IsEnd new × IsAtEnd later
Reads left later old new (Err failure.NoMemory) = Moves left later old new
Reads left later old new (Err (failure.Fault http.CutOff)) = Moves left later old new × IsCutOff new × IsAtEnd later
Reads left later old new (Err (failure.Fault http.ReadFault)) = Moves left later old new × IsUnfinished new
Reads left later old new (Err (failure.Fault fault)) = Moves left later old new × HasFault fault new

-- how far was read on behind what was answered: fewer than 4,096 bytes stand behind a request, behind a head with a fault,
-- and behind the bytes among which a head has to end
abbrev pub ReadsOn : List ℕ → Result (Option Request) (Failure HttpFault) → Type 0
ReadsOn new (Ok (Some request)) = length new < MAX_PIECE_BYTES
ReadsOn new (Ok None) = ⊤
ReadsOn new (Err failure.NoMemory) = ⊤
ReadsOn new (Err (failure.Fault http.HeadTooLarge)) = length new < MAX_HEAD_BYTES + MAX_PIECE_BYTES
ReadsOn new (Err (failure.Fault http.CutOff)) = ⊤
ReadsOn new (Err (failure.Fault http.ReadFault)) = ⊤
ReadsOn new (Err (failure.Fault fault)) = (len : ℕ) × (head_len (front_of new) ≡ Some len) × (length new < len + MAX_PIECE_BYTES)
