-- Answers that are prepared.
use Rattle.std.specs.Prelude.{◌≡◌, ℕ, true, List, Some, slice_get}
use Rattle.tree_site.specs.declared.prepared.Prepared.{Prepared}
use Rattle.tree_site.specs.declared.prepared.Prepared.TheVariants as prepared
use Rattle.site_words.specs.Law.{Answer, told, id}
use Rattle.site_words.specs.Running.{fits_step_reply, keeps_limits}
use Rattle.site_words.specs.Weights.{answer_weight}
use Rattle.site_words.specs.declared.port.Fresh.{Fresh}
use Rattle.site_words.specs.declared.words.AppReply.{AppReply}
use Rattle.site_words.specs.declared.words.AppStep.{AppStep}

-- a reply is one to this step, and its value keeps the limits of a value
abbrev pub IsFit : AppStep → AppReply → Type 0
IsFit step reply = (fits_step_reply step reply ≡ true) × keeps_limits reply

-- a reply is prepared at this place, and is one to this step
abbrev pub ReplyAt : List Prepared → ℕ → AppStep → AppReply → Type 0
ReplyAt answers at step reply = (slice_get answers at ≡ Some (prepared.Reply reply)) × IsFit step reply

-- a session as an answer
abbrev pub session_of : Fresh → Prepared
session_of fresh = prepared.Session fresh

-- what an answer tells
abbrev pub answer_of : Prepared → Answer
answer_of (prepared.Reply reply) = told reply
answer_of (prepared.Session fresh) = id fresh.id

-- what an answer takes of a request's promise
abbrev pub answer_claim : Prepared → ℕ
answer_claim (prepared.Reply reply) = answer_weight reply
answer_claim (prepared.Session fresh) = 0
