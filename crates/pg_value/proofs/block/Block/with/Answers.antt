use Rattle.std.proofs.Common.{ap, map, subst, sym, ◌∙◌}
use Rattle.pg_value.specs.Attrs.{AreInOrder, with_entry}
use Rattle.pg_value.specs.Value.{datum_of, entry_of}
use Rattle.pg_value.proofs.Order.{AreInOrder-with_entry}
use Rattle.pg_value.proofs.block.Block.with.Goals as goal

pub put-requires : goal.put-requires
put-requires c = subst AreInOrder (sym (ap (map entry_of) c.in_ok-entries.ensures ∙ c.as_slice.ensures.entries)) c.as_slice.ensures.order

pub new-requires : goal.new-requires
new-requires c =
    let was = ap (map entry_of) c.in_ok-entries.ensures ∙ c.as_slice.ensures.entries in
    subst AreInOrder (sym (c.in_ok-put.ensures.ok ∙ ap (λ es. with_entry es c.args.key (datum_of c.args.value)) was)) (AreInOrder-with_entry c.args.self.now c.args.key (datum_of c.args.value) c.as_slice.ensures.order)
