-- What operations, replies and entries weigh.
use Rattle.std.specs.Prelude.{ℕ, ◌+◌, ◌-◌, ◌^◌, min, nat_lt, length, List, [], ◌∷◌, Option, Some, None, if◌then◌else◌}
use Rattle.source_tree.specs.declared.edit.Edit.{Edit}
use Rattle.source_tree.specs.declared.edit.Edit.TheVariants.{Put, Delete}
use Rattle.pg_value.specs.Weight.{weight_of}
use Rattle.pg_value.specs.declared.limits.TheConstants.{MAX_SESSION_WEIGHT, MAX_WEIGHT}
use Rattle.pg_value.specs.Datum.{Datum, rec, entries_of}
use Rattle.pg_value.specs.Value.{datum_of}
use Rattle.site_words.specs.declared.limits.TheConstants.{END_WEIGHT, MAX_COOKIE_BYTES, OP_WEIGHT, PROMISE}
use Rattle.site_words.specs.declared.words.AppStep.{AppStep}
use Rattle.site_words.specs.declared.words.AppStep.TheVariants as step
use Rattle.site_words.specs.declared.words.AppReply.{AppReply}
use Rattle.site_words.specs.declared.words.AppReply.TheVariants as answer
use Rattle.site_words.specs.declared.words.Op.{Op}
use Rattle.site_words.specs.declared.words.Op.TheVariants as op
use Rattle.site_words.specs.declared.words.Reply.{Reply}
use Rattle.site_words.specs.declared.words.Reply.TheVariants as reply

-- a weight as a number of 64 bits
abbrev pub capped : ℕ → ℕ
capped n = min n (2 ^ 64 - 1)

-- a weight where 64 bits hold it; one that they don't hold is over every limit
abbrev pub weight_held : ℕ → Option ℕ
weight_held n = if nat_lt n (2 ^ 64) then Some n else None

-- the most bytes of a cookie
abbrev pub most_cookie : ℕ
most_cookie = MAX_COOKIE_BYTES

-- what Begin promises a request
abbrev pub promise : ℕ
promise = PROMISE

-- what is kept of a promise for the request's end
abbrev pub end_weight : ℕ
end_weight = END_WEIGHT

-- what a session's attributes weigh at most
abbrev pub attrs_limit : ℕ
attrs_limit = MAX_SESSION_WEIGHT

-- what a value that a step is told weighs at most
abbrev pub value_limit : ℕ
value_limit = MAX_WEIGHT

-- a text weighs 16 and its bytes
abbrev pub text_weight : List ℕ → ℕ
text_weight text = 16 + length text

-- attributes weigh what the record of them does
abbrev pub attrs_weight : List (List ℕ × Datum) → ℕ
attrs_weight attrs = weight_of (rec (entries_of attrs))

-- an edit weighs what its texts do
abbrev pub edit_weight : Edit → ℕ
edit_weight (Put path text) = text_weight path + text_weight text
edit_weight (Delete path) = text_weight path

-- edits weigh what they do together
abbrev pub edits_weight : List Edit → ℕ
edits_weight [] = 0
edits_weight (edit ∷ edits) = edit_weight edit + edits_weight edits

-- names weigh what they do together
abbrev pub names_weight : List (List ℕ) → ℕ
names_weight [] = 0
names_weight (name ∷ names) = text_weight name + names_weight names

-- a step weighs its name and its value
abbrev pub step_weight : AppStep → ℕ
step_weight (step.Get name) = text_weight name
step_weight (step.Set name value) = text_weight name + weight_of (datum_of value)
step_weight (step.Remove name) = text_weight name
step_weight (step.Ensure name value) = text_weight name + weight_of (datum_of value)
step_weight step.All = 0

-- an operation weighs `OP_WEIGHT`, its texts and its values, and a Roll nothing; numbers weigh nothing
abbrev pub op_weight : Op → ℕ
op_weight (op.Publish base edits) = OP_WEIGHT + edits_weight edits
op_weight (op.Begin cookie moment) = OP_WEIGHT + text_weight cookie
op_weight (op.App request step) = OP_WEIGHT + step_weight step
op_weight (op.Fresh request) = OP_WEIGHT
op_weight (op.Fetch request path) = OP_WEIGHT + text_weight path
op_weight (op.Offer request path) = OP_WEIGHT + text_weight path
op_weight (op.End request attrs) = OP_WEIGHT + attrs_weight attrs
op_weight (op.Abandon request) = OP_WEIGHT
op_weight (op.Snapshot cookie) = OP_WEIGHT + text_weight cookie
op_weight op.Roll = 0

-- what a step is told weighs its value
abbrev pub answer_weight : AppReply → ℕ
answer_weight (answer.Value value) = weight_of (datum_of value)
answer_weight answer.Done = 0
answer_weight answer.Created = 0
answer_weight (answer.Large weight) = 0

-- a reply weighs its names or its value
abbrev pub reply_weight : Reply → ℕ
reply_weight (reply.Published version dirty) = names_weight dirty
reply_weight (reply.Begun request version session) = 0
reply_weight (reply.App answer) = answer_weight answer
reply_weight (reply.Made session) = 0
reply_weight (reply.Fetched hit) = 0
reply_weight (reply.Offered kept) = 0
reply_weight reply.Ended = 0
reply_weight reply.Dropped = 0
reply_weight (reply.Snapped version session) = 0
reply_weight reply.Rolled = 0

-- an entry weighs its operation and its reply
abbrev pub weight_with : Op → Reply → ℕ
weight_with o r = op_weight o + reply_weight r

-- the weight of a history after one entry more; a Roll begins anew
abbrev pub weight_after : ℕ → Op → Reply → ℕ
weight_after weight op.Roll r = 0
weight_after weight (op.Publish base edits) r = weight + weight_with (op.Publish base edits) r
weight_after weight (op.Begin cookie moment) r = weight + weight_with (op.Begin cookie moment) r
weight_after weight (op.App request step) r = weight + weight_with (op.App request step) r
weight_after weight (op.Fresh request) r = weight + weight_with (op.Fresh request) r
weight_after weight (op.Fetch request path) r = weight + weight_with (op.Fetch request path) r
weight_after weight (op.Offer request path) r = weight + weight_with (op.Offer request path) r
weight_after weight (op.End request attrs) r = weight + weight_with (op.End request attrs) r
weight_after weight (op.Abandon request) r = weight + weight_with (op.Abandon request) r
weight_after weight (op.Snapshot cookie) r = weight + weight_with (op.Snapshot cookie) r
