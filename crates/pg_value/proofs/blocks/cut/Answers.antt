use Rattle.std.proofs.Common.{arith, ◌≡◌, ◌<◌, ◌++◌, length, map, subst, sym, ap, ◌∙◌}
use Rattle.std.proofs.lemmas.Bool.Decides.{nat_tests}
use Rattle.std.proofs.lemmas.List.{length-map}
use Rattle.pg_value.specs.Attrs.{AreInOrder}
use Rattle.pg_value.specs.ReadEntries.{AreFilled, joined}
use Rattle.pg_value.specs.Value.{entry_of}
use Rattle.pg_value.proofs.BlockLoops.{cut_all, cut_kept, cut_more, in_order_back, in_order_front}
use Rattle.pg_value.proofs.BlockPlaces.{AreFilled-pushed}
use Rattle.pg_value.proofs.blocks.cut.Goals as goal

pub new-requires : goal.new-requires
new-requires c =
    subst (λ es. AreInOrder (map entry_of es)) (sym c.in_ok-copied.ensures)
    (in_order_front c.parts.rest.now c.split_at.result.0.now c.split_at.result.1.now (sym c.split_at.ensures.by_index.0) c.parts.invariant.order)

pub parts-preserved : goal.parts-preserved
parts-preserved c =
    let made = c.in_ok-new.ensures ∙ ap (map entry_of) c.in_ok-copied.ensures in
    let some : 0 < length c.parts.rest.now = grind (arith, nat_tests) in
    record {
      all = subst (λ bs. joined bs ++ map entry_of c.split_at.result.1.now ≡ map entry_of c.args.entries.now) (sym c.in_ok-push.ensures.items)
          (cut_more c.parts.blocks.items c.parts.rest.now c.split_at.result.0.now c.split_at.result.1.now c.in_ok-new.field-0 _ (sym c.split_at.ensures.by_index.0) made c.parts.invariant.all);
      filled = subst AreFilled (sym c.in_ok-push.ensures.items) (AreFilled-pushed c.parts.blocks.items c.in_ok-new.field-0 c.parts.invariant.filled (omega (arith, some, ap length made, length-map c.split_at.result.0.now entry_of)));
      order = in_order_back c.parts.rest.now c.split_at.result.0.now c.split_at.result.1.now (sym c.split_at.ensures.by_index.0) c.parts.invariant.order;
    }

pub returns-clause-same : goal.returns-clause-same
returns-clause-same c = cut_all c.parts.blocks.items c.parts.rest.now (map entry_of c.args.entries.now) (grind (arith, nat_tests)) c.parts.invariant.all

pub returns-clause-kept : goal.returns-clause-kept
returns-clause-kept c = cut_kept c.parts.blocks.items c.args.entries.now (returns-clause-same c) c.parts.invariant.filled c.requires (omega arith)
