use Rattle.std.proofs.Common.{ap, map, subst, sym, ◌∙◌}
use Rattle.pg_value.specs.Attrs.{AreInOrder, without_entry}
use Rattle.pg_value.specs.ReadEntries.{AreKept, in_entries}
use Rattle.pg_value.specs.Value.{entry_of}
use Rattle.pg_value.proofs.Order.{AreInOrder-without_entry, without_entry-entry_of}
use Rattle.pg_value.proofs.entries.Entries.take_out.Goals as goal

pub returns-in-Few-clause-ok : goal.returns-in-Few-clause-ok
returns-in-Few-clause-ok c =
    ap (map entry_of) c.take_out.ensures ∙ without_entry-entry_of c.in-Few.list.items c.args.key.now
    ∙ ap (λ es. without_entry (in_entries es) c.args.key.now) (sym c.in-Few.is)

pub returns-in-Few-clause-kept : goal.returns-in-Few-clause-kept
returns-in-Few-clause-kept c =
    subst AreInOrder (sym (ap (map entry_of) c.take_out.ensures ∙ without_entry-entry_of c.in-Few.list.items c.args.key.now))
    (AreInOrder-without_entry (map entry_of c.in-Few.list.items) c.args.key.now (subst AreKept c.in-Few.is c.requires))
