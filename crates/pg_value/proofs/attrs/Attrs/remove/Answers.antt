use Rattle.std.proofs.Common.{map, ap, ◌∙◌, subst, sym}
use Rattle.pg_value.specs.Attrs.{AreInOrder, entry_at, without_entry}
use Rattle.pg_value.specs.Value.{entry_of}
use Rattle.pg_value.proofs.Lookups.{entry_at-without_entry, entry_at-without_entry_other}
use Rattle.pg_value.proofs.Order.{AreInOrder-without_entry, without_entry-entry_of}
use Rattle.pg_value.proofs.attrs.Attrs.remove.Goals as goal

pub invariant_of-self : goal.invariant_of-self
invariant_of-self c =
    let kept = ap (map entry_of) c.take_out.ensures ∙ without_entry-entry_of c.self.inside.entries.items c.args.key.now in
    subst AreInOrder (sym kept) (AreInOrder-without_entry _ c.args.key.now c.self.invariant)

pub returns-clause-rest : goal.returns-clause-rest
returns-clause-rest c =
    ap (map entry_of) c.take_out.ensures ∙ without_entry-entry_of c.self.inside.entries.items c.args.key.now
    ∙ ap (λ es. without_entry es c.args.key.now) c.self.view_is

pub returns-clause-gone : goal.returns-clause-gone
returns-clause-gone c = ap (entry_at c.args.key.now) (returns-clause-rest c) ∙ entry_at-without_entry c.args.self.now c.args.key.now

pub returns-clause-others : goal.returns-clause-others
returns-clause-others c other ne = ap (entry_at other) (returns-clause-rest c) ∙ entry_at-without_entry_other c.args.self.now other c.args.key.now ne
