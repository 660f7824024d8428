-- How far a request came for which memory ran out.
use Rattle.std.specs.Prelude.{None}
use Rattle.http_out.specs.declared.head.Head.{Head}
use Rattle.request_port.specs.Dropped.{HeadsSo}
use Rattle.page_meaning.specs.Growth.{Grows}
use Rattle.page_meaning.specs.Response.{Answered, end_state, head_of}
use Rattle.page_meaning.specs.State.{State}

-- the head that goes before what a page commits, by the status and the type of its writer's head and the session of its state
abbrev pub sent_head : Head → State → Head
sent_head head reached = head_of head.status head.content_type None reached

-- it went no further than this answer goes, and where something was committed behind the head, the answer has that head
abbrev pub GoesWithin : Head → (reached : State) → Answered → Type 0
GoesWithin head reached answered = Grows reached (end_state answered) × HeadsSo (sent_head head reached) reached.writer.pieces answered
