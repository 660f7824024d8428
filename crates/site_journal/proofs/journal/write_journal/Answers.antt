use Rattle.sink_buffer.proofs.Writing.{whole_rose, whole_sent}
use Rattle.site_journal.proofs.journal.write_journal.Goals as goal

pub returns-clause-sent : goal.returns-clause-sent
returns-clause-sent g c = whole_sent _ _ c.new-buffer.ensures c.put_journal.ensures.writes (c.finish.ensures.sent _ _)

pub returns-clause-rose : goal.returns-clause-rose
returns-clause-rose g c = c.finish.ensures.rose _ c.put_journal.ensures.writes.counted (whole_rose c.new-buffer.ensures c.put_journal.ensures.writes)
