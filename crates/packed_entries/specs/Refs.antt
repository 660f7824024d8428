-- What is read of an operation or a reply where it stands.
use Rattle.site_words.specs.declared.words.Op.{Op}
use Rattle.site_words.specs.declared.words.Op.TheVariants as op
use Rattle.site_words.specs.declared.words.Reply.{Reply}
use Rattle.site_words.specs.declared.words.Reply.TheVariants as reply
use Rattle.packed_entries.specs.declared.op_ref.OpRef.{OpRef}
use Rattle.packed_entries.specs.declared.op_ref.OpRef.TheVariants as read
use Rattle.packed_entries.specs.declared.reply_ref.ReplyRef.{ReplyRef}
use Rattle.packed_entries.specs.declared.reply_ref.ReplyRef.TheVariants as told

-- the operation that is read
abbrev pub op_in : OpRef → Op
op_in (read.Publish base edits) = op.Publish base edits.now
op_in (read.Begin cookie moment) = op.Begin cookie.now moment
op_in (read.App request step) = op.App request step.now
op_in (read.Fresh request) = op.Fresh request
op_in (read.Fetch request path) = op.Fetch request path.now
op_in (read.Offer request path) = op.Offer request path.now
op_in (read.End request attrs) = op.End request attrs.now
op_in (read.Abandon request) = op.Abandon request
op_in (read.Snapshot cookie) = op.Snapshot cookie.now
op_in read.Roll = op.Roll

-- the reply that is read
abbrev pub reply_in : ReplyRef → Reply
reply_in (told.Published version dirty) = reply.Published version dirty.now
reply_in (told.Begun request version session) = reply.Begun request version session
reply_in (told.App answer) = reply.App answer.now
reply_in (told.Made session) = reply.Made session
reply_in (told.Fetched hit) = reply.Fetched hit
reply_in (told.Offered kept) = reply.Offered kept
reply_in told.Ended = reply.Ended
reply_in told.Dropped = reply.Dropped
reply_in (told.Snapped version session) = reply.Snapped version session
reply_in told.Rolled = reply.Rolled
