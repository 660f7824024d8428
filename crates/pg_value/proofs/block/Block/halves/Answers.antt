use Rattle.std.proofs.Common.{map, subst, sym}
use Rattle.pg_value.specs.Attrs.{AreInOrder}
use Rattle.pg_value.specs.Value.{entry_of}
use Rattle.pg_value.proofs.BlockLoops.{in_order_back, in_order_front}
use Rattle.pg_value.proofs.block.Block.halves.Goals as goal

pub new-requires : goal.new-requires
new-requires c =
    subst (λ es. AreInOrder (map entry_of es)) (sym c.in_ok-copied.ensures)
    (in_order_front c.as_slice.result.now c.split_at.result.0.now c.split_at.result.1.now (sym c.split_at.ensures.by_index.0) (subst AreInOrder (sym c.as_slice.ensures.entries) c.as_slice.ensures.order))

pub new-requires-2 : goal.new-requires-2
new-requires-2 c =
    subst (λ es. AreInOrder (map entry_of es)) (sym c.in_ok-copied-2.ensures)
    (in_order_back c.as_slice.result.now c.split_at.result.0.now c.split_at.result.1.now (sym c.split_at.ensures.by_index.0) (subst AreInOrder (sym c.as_slice.ensures.entries) c.as_slice.ensures.order))
