use Rattle.std.proofs.Common.{subst}
use Rattle.pg_value.specs.ReadEntries.{AreKept}
use Rattle.pg_value.proofs.Order.{AreInOrder-put}
use Rattle.pg_value.proofs.entries.Entries.put.Goals as goal

pub returns-in-Few-clause-kept : goal.returns-in-Few-clause-kept
returns-in-Few-clause-kept c =
    AreInOrder-put c.put.result c.in-Few.list.items c.put.new.entries.items _ _ c.put.ensures.ok c.put.ensures.err (subst AreKept c.in-Few.is c.make_room.ensures.kept)
