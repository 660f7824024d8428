-- The steps that pages ask of the site, what their answers tell, and what they charge.
use Rattle.std.specs.Prelude.{ℕ, ◌+◌, Bool, true, false, List, []}
use Rattle.pg_value.specs.Datum.{Datum, null}
use Rattle.pg_value.specs.Value.{datum_of}
use Rattle.site_words.specs.Law.{Answer, told, id}
use Rattle.site_words.specs.Weights.{answer_weight, op_weight}
use Rattle.site_words.specs.declared.words.AppReply.{AppReply}
use Rattle.site_words.specs.declared.words.AppReply.TheVariants as reply
use Rattle.site_words.specs.declared.words.AppStep.{AppStep}
use Rattle.site_words.specs.declared.words.Op.TheVariants as op

-- a step of a request: one on the application's attributes, a new session, or the fetch of a page
pub data Step : Type 0 where
  app : AppStep → Step
  fresh : Step
  fetch : (path : List ℕ) → Step

-- the value that a reply tells, and null of one that tells none
abbrev pub value_in : AppReply → Datum
value_in (reply.Value value) = datum_of value
value_in reply.Done = null
value_in reply.Created = null
value_in (reply.Large weight) = null

-- the value that an answer tells, and null of one that tells none
abbrev pub told_value : Answer → Datum
told_value (told r) = value_in r
told_value (id text) = null

-- the id of the session that an answer tells, and the empty text of one that tells none
abbrev pub told_id : Answer → List ℕ
told_id (id text) = text
told_id (told r) = []

-- whether an answer tells that the name was set
abbrev pub tells_created : Answer → Bool
tells_created (told reply.Created) = true
tells_created other = false

-- whether an answer tells that the whole is too large
abbrev pub tells_large : Answer → Bool
tells_large (told (reply.Large weight)) = true
tells_large other = false

-- what an answer weighs in its entry
abbrev pub told_weight : Answer → ℕ
told_weight (told r) = answer_weight r
told_weight (id text) = 0

-- a step on the application's attributes charges what its entry weighs, in which a request's number weighs nothing
abbrev pub step_charge : AppStep → Answer → ℕ
step_charge step answer = op_weight (op.App 0 step) + told_weight answer

-- the run of a page charges its Fetch and its Offer
abbrev pub page_charge : (path : List ℕ) → ℕ
page_charge path = op_weight (op.Fetch 0 path) + op_weight (op.Offer 0 path)
