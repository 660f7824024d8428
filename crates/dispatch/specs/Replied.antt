-- The response that a reply is, and how it was written.
use Rattle.std.specs.Prelude.{◌≡◌, ℕ, Bool, true, false, List, [], Option, None, Result, Ok, Err}
use Rattle.std.specs.Io.KnownBytes.{Appends}
use Rattle.conversation.specs.declared.desk.Outcome.{Outcome}
use Rattle.conversation.specs.declared.desk.Outcome.TheVariants.{Whole, Broken, WriteFault, NoMemory}
use Rattle.edges.specs.Faults.{Rose}
use Rattle.http_out.specs.Response.{Response}
use Rattle.http_out.specs.Sent.{Sent}
use Rattle.out_buffer.specs.Held.{Held}
use Rattle.out_buffer.specs.Streamed.{HasTaken}
use Rattle.page_meaning.specs.Response.{head_of, rest_of}
use Rattle.page_meaning.specs.State.{State}
use Rattle.request_pages.specs.declared.reply.Reply.{Reply}
use Rattle.request_pages.specs.declared.reply.Reply.TheVariants as reply

-- the response that a reply is, by the head of the writer and the state in which the request stands
abbrev pub response_in : Held → Reply → State → Response
response_in held (reply.Written broken) s =
    record { head = head_of held.head.status held.head.content_type None s; pieces = s.writer.pieces; rest = rest_of broken s.writer.buffer; broken = broken }
response_in held (reply.Whole status content_type location body) s = record { head = head_of status content_type location s; pieces = []; rest = body; broken = false }

-- how a response that may break off was written to a sink that had taken this and counted so many
-- faults when it began: whole, or in part where the sink failed; memory ran out only where nothing
-- was committed, and then nothing was written
abbrev pub Wrote : {E : Type 0} → (start : Option (List ℕ)) → (before : ℕ) → (text : List ℕ) → (broken : Bool) → (pieces : List (List ℕ)) → (taken : Option (List ℕ)) → (faults : ℕ) → Result Outcome E → Type 0
Wrote start before text broken pieces taken faults (Ok Whole) = Appends start taken text × (broken ≡ false)
Wrote start before text broken pieces taken faults (Ok Broken) = Appends start taken text × (broken ≡ true)
Wrote start before text broken pieces taken faults (Ok WriteFault) = Sent start taken text true × Rose before faults
Wrote start before text broken pieces taken faults (Ok NoMemory) = ⊥
Wrote start before text broken pieces taken faults (Err e) = (pieces ≡ []) × HasTaken start before [] false taken faults
