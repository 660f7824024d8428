use Rattle.std.proofs.Common.{map, subst, sym}
use Rattle.pg_value.specs.Attrs.{AreInOrder}
use Rattle.pg_value.specs.ReadEntries.{AreKept}
use Rattle.pg_value.specs.Value.{datum_of, entry_of}
use Rattle.pg_value.proofs.Placed.{AreInOrder-with_value_at}
use Rattle.pg_value.proofs.entries.Entries.set_at.Goals as goal

pub returns-in-Few-clause-kept : goal.returns-in-Few-clause-kept
returns-in-Few-clause-kept c =
    subst AreInOrder (sym c.set_at.ensures) (AreInOrder-with_value_at (map entry_of c.in-Few.list.items) c.args.at (datum_of c.args.value) (subst AreKept c.in-Few.is c.requires.kept))
