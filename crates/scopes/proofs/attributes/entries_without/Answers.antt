use Rattle.std.proofs.Common.{ap, sym, subst, ◌∙◌}
use Rattle.pg_value.specs.Attrs.{AreInOrder, without_entry}
use Rattle.pg_value.proofs.Order.{AreInOrder-without_entry}
use Rattle.scopes.proofs.attributes.entries_without.Goals as goal

pub new-requires : goal.new-requires
new-requires c =
    let left = c.take_out.ensures ∙ ap (λ es. without_entry es c.args.key.now) c.into_vec-entries.ensures.entries in
    subst AreInOrder (sym left) (AreInOrder-without_entry c.args.entries c.args.key.now c.into_vec-entries.ensures.order)
