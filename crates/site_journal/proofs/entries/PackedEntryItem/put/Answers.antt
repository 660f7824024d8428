use Rattle.std.proofs.Common.{ap, subst}
use Rattle.sink_buffer.proofs.Writing.{writes_both, writes_same}
use Rattle.site_journal.proofs.Written.{same_entry}
use Rattle.site_journal.specs.Journal.{of_entry}
use Rattle.site_journal.specs.Reading.{HasParts}
use Rattle.site_journal.proofs.entries.PackedEntryItem.put.Goals as goal

pub returns-clause-writes : goal.returns-clause-writes
returns-clause-writes g c =
    let is = same_entry c.args.self.now _ _ _ c.pass-pass.ensures c.op-op.ensures c.reply.ensures in
    writes_same (ap of_entry is) (writes_both (writes_both (rw c.kind_of.ensures at c.put.ensures) c.put_op.ensures.writes) c.put_reply.ensures.writes)

pub returns-clause-can_be : goal.returns-clause-can_be
returns-clause-can_be g c =
    let is = same_entry c.args.self.now _ _ _ c.pass-pass.ensures c.op-op.ensures c.reply.ensures in
    subst HasParts is (record { pass = c.know_byte.ensures; op_is = c.put_op.ensures.can_be; reply_is = c.put_reply.ensures.can_be })
