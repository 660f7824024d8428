-- What a contract sees of a writer, and what it stands for with its sink.
use Rattle.std.specs.Prelude.{◌≡◌, ℕ, Bool, false, true, List, [], Option, Result, Ok, Err, ⊤}
use Rattle.edges.specs.declared.failed.Failed.{Failed}
use Rattle.http_out.specs.Response.{Response, wire}
use Rattle.http_out.specs.declared.head.Head.{Head}
use Rattle.out_buffer.specs.Streamed.{so_far, HasTaken}
use Rattle.out_buffer.specs.Writer.{Writer, has_committed}
use Rattle.pg_text.specs.declared.failure.Failure.{Failure}
use Rattle.pg_text.specs.declared.failure.Failure.TheVariants.{NoMemory, Fault}
use Rattle.pg_value.specs.declared.fault.RunFault.{RunFault}

-- all that a writer holds: what a page has written but for the committed pieces, which are gone to the sink; the head, whether the
-- body is shown, whether something was committed, and whether the sink failed
pub record Held : Type 0 where
  pub head : Head
  pub shown : Bool
  pub committed : Bool
  pub failed : Bool
  pub buffer : List ℕ
  pub size : Option ℕ
  pub autoflush : Bool
  pub count : ℕ
  pub kept : List (List ℕ)

-- a writer at the start of a response
abbrev pub fresh : Head → Option ℕ → Bool → Bool → Held
fresh head size autoflush shown = record { head = head; shown = shown; committed = false; failed = false; buffer = []; size = size; autoflush = autoflush; count = 0; kept = [] }

-- what is held and these committed pieces
abbrev pub writer_of : Held → List (List ℕ) → Writer
writer_of held pieces = record { pieces = pieces; buffer = held.buffer; size = held.size; autoflush = held.autoflush; count = held.count; kept = held.kept }

-- what is held, and a sink that had taken `start` and counted `before` faults when the response began and stands now at `taken` and
-- `faults`, stand for what a page has written
pub record Stands (start : Option (List ℕ)) (before : ℕ) (held : Held) (taken : Option (List ℕ)) (faults : ℕ) (writer : Writer) : Type 0 where
  -- but for the pieces it is what is held
  pub holds : writer ≡ writer_of held writer.pieces
  pub committed : held.committed ≡ has_committed writer
  -- and to the sink went the head and the chunks of the pieces
  pub streamed : HasTaken start before (so_far held.head held.shown writer.pieces) held.failed taken faults

-- a call did what was expected of it, with this fact of what was written then; or it has the fault
-- that was expected; or memory ran out
abbrev pub Comes : Result Writer RunFault → Result ⊤ (Failure RunFault) → (Writer → Type 0) → Type 0
Comes expected (Ok done) stands = (after : Writer) × (expected ≡ Ok after) × stands after
Comes expected (Err (Fault fault)) stands = expected ≡ Err fault
Comes expected (Err NoMemory) stands = ⊤

-- the response of a head and what a page has written, which may break off
abbrev pub response_of : Head → Writer → Bool → Response
response_of head writer broken = record { head = head; pieces = writer.pieces; rest = writer.buffer; broken = broken }

-- how a response ended: the sink took it whole, or it failed and took a part; memory runs out only
-- where nothing was committed, and then nothing was written
abbrev pub Finished : Option (List ℕ) → ℕ → Bool → Response → Option (List ℕ) → ℕ → Result ⊤ (Failure Failed) → Type 0
Finished start before shown response taken faults (Ok done) = HasTaken start before (wire response shown) false taken faults
Finished start before shown response taken faults (Err (Fault failed)) = HasTaken start before (wire response shown) true taken faults
Finished start before shown response taken faults (Err NoMemory) = (response.pieces ≡ []) × HasTaken start before [] false taken faults
