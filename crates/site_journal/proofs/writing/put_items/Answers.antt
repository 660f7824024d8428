use Rattle.std.proofs.Common.{arith}
use Rattle.site_journal.proofs.Parts.{each_all, each_next}
use Rattle.site_journal.proofs.Written.{writes_all, writes_next}
use Rattle.sink_buffer.proofs.Writing.{writes_none}
use Rattle.site_journal.proofs.writing.put_items.Goals as goal

pub loop-item-init : goal.loop-item-init
loop-item-init g c = record { written = writes_none _ _ _; can_be = tt }

pub loop-item-preserved : goal.loop-item-preserved
loop-item-preserved g c = record {
  written = writes_next g.T.Item.text c.args.items.now c.loop-item.item-index c.item-item.result (omega arith) c.item-item.is c.loop-item.invariant.written c.put.ensures.writes;
  can_be = each_next g.T.Item.can_be c.args.items.now c.loop-item.item-index c.item-item.result (omega arith) c.item-item.is c.loop-item.invariant.can_be c.put.ensures.can_be;
}

pub returns-clause-writes : goal.returns-clause-writes
returns-clause-writes g c = writes_all g.T.Item.text c.args.items.now c.loop-item.item-index (omega arith) c.loop-item.invariant.written

pub returns-clause-can_be : goal.returns-clause-can_be
returns-clause-can_be g c = each_all g.T.Item.can_be c.args.items.now c.loop-item.item-index (omega arith) c.loop-item.invariant.can_be
