-- The kinds of entries as they are kept.
use Rattle.std.specs.Prelude.{Bool, true, false, [], None, Some, ⊤}
use Rattle.site_words.specs.declared.words.Op.{Op}
use Rattle.site_words.specs.declared.words.Op.TheVariants as op
use Rattle.site_words.specs.declared.words.Reply.{Reply}
use Rattle.site_words.specs.declared.words.Reply.TheVariants as reply
use Rattle.packed_entries.specs.declared.kind.Kind.{Kind}
use Rattle.packed_entries.specs.declared.kind.Kind.TheVariants as kind

-- the operation of a kind
abbrev pub op_of : Kind → Op
op_of (kind.Visited moment request version) = op.Begin [] moment
op_of (kind.Begun cookie moment request version) = op.Begin cookie moment
op_of (kind.Resumed cookie moment request version session) = op.Begin cookie moment
op_of (kind.Made request session) = op.Fresh request
op_of (kind.Fetched hit request path) = op.Fetch request path
op_of (kind.Offered kept request path) = op.Offer request path
op_of (kind.Ended request attrs) = op.End request attrs
op_of (kind.Abandoned request) = op.Abandon request
op_of (kind.Apart answered) = answered.value.op

-- the reply of a kind
abbrev pub reply_of : Kind → Reply
reply_of (kind.Visited moment request version) = reply.Begun request version None
reply_of (kind.Begun cookie moment request version) = reply.Begun request version None
reply_of (kind.Resumed cookie moment request version session) = reply.Begun request version (Some session)
reply_of (kind.Made request session) = reply.Made session
reply_of (kind.Fetched hit request path) = reply.Fetched hit
reply_of (kind.Offered kept request path) = reply.Offered kept
reply_of (kind.Ended request attrs) = reply.Ended
reply_of (kind.Abandoned request) = reply.Dropped
reply_of (kind.Apart answered) = answered.value.reply

-- the entry of an operation takes memory beside its slot
abbrev pub stands_apart : Op → Bool
stands_apart (op.Publish base edits) = true
stands_apart (op.App request step) = true
stands_apart (op.Snapshot cookie) = true
stands_apart op.Roll = true
stands_apart other = false

-- the reply is of the operation's kind
abbrev pub Pairs : Op → Reply → Type 0
Pairs (op.Publish base edits) (reply.Published version dirty) = ⊤
Pairs (op.Begin cookie moment) (reply.Begun request version session) = ⊤
Pairs (op.App request step) (reply.App answer) = ⊤
Pairs (op.Fresh request) (reply.Made session) = ⊤
Pairs (op.Fetch request path) (reply.Fetched hit) = ⊤
Pairs (op.Offer request path) (reply.Offered kept) = ⊤
Pairs (op.End request attrs) reply.Ended = ⊤
Pairs (op.Abandon request) reply.Dropped = ⊤
Pairs (op.Snapshot cookie) (reply.Snapped version session) = ⊤
Pairs op.Roll reply.Rolled = ⊤
Pairs o r = ⊥
