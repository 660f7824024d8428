use Rattle.std.proofs.Common.{ap, subst, sym}
use Rattle.sink_buffer.proofs.Writing.{writes_both, writes_same}
use Rattle.packed_entries.specs.Refs.{reply_in}
use Rattle.site_journal.specs.Journal.{of_reply}
use Rattle.site_journal.specs.Reading.{IsReply}
use Rattle.site_journal.proofs.entries.put_reply.Goals as goal

pub returns-in-Published-clause-writes : goal.returns-in-Published-clause-writes
returns-in-Published-clause-writes g c = writes_same (ap (λ r. of_reply (reply_in r)) (sym c.in-Published.is)) (writes_both c.put_number.ensures.writes (rw c.as_slice.ensures.paths at c.put_list.ensures.writes))

pub returns-in-Published-clause-can_be : goal.returns-in-Published-clause-can_be
returns-in-Published-clause-can_be g c = subst (λ r. IsReply (reply_in r)) (sym c.in-Published.is) (c.put_number.ensures.can_be, rw c.as_slice.ensures.paths at c.put_list.ensures.can_be, c.as_slice.ensures.order)

pub returns-in-Begun-clause-writes : goal.returns-in-Begun-clause-writes
returns-in-Begun-clause-writes g c = writes_same (ap (λ r. of_reply (reply_in r)) (sym c.in-Begun.is)) (writes_both (writes_both c.put_number-in-Begun.ensures.writes c.put_number-in-Begun-2.ensures.writes) c.put_option.ensures.writes)

pub returns-in-Begun-clause-can_be : goal.returns-in-Begun-clause-can_be
returns-in-Begun-clause-can_be g c = subst (λ r. IsReply (reply_in r)) (sym c.in-Begun.is) (c.put_number-in-Begun.ensures.can_be, c.put_number-in-Begun-2.ensures.can_be, c.put_option.ensures.can_be)

pub returns-in-Snapped-clause-writes : goal.returns-in-Snapped-clause-writes
returns-in-Snapped-clause-writes g c = writes_same (ap (λ r. of_reply (reply_in r)) (sym c.in-Snapped.is)) (writes_both c.put_number-in-Snapped.ensures.writes c.put_option-in-Snapped.ensures.writes)

pub returns-in-Snapped-clause-can_be : goal.returns-in-Snapped-clause-can_be
returns-in-Snapped-clause-can_be g c = subst (λ r. IsReply (reply_in r)) (sym c.in-Snapped.is) (c.put_number-in-Snapped.ensures.can_be, c.put_option-in-Snapped.ensures.can_be)
