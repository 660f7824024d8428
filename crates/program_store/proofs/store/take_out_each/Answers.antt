use Rattle.std.proofs.Common.{◌≡◌, ◌<◌, get_or, length, sym, subst}
use Rattle.std.proofs.lemmas.List.Kept.{AllPairs-filter}
use Rattle.pg_text.specs.Order.{AreRising}
use Rattle.pg_text.proofs.ItemLemmas.{IsBelow}
use Rattle.dep_graph.proofs.TakenLemmas.{none_taken, taken_more}
use Rattle.program_store.specs.Store.{shelf_path}
use Rattle.program_store.proofs.store.take_out_each.Goals as goal

pub loop-path-init : goal.loop-path-init
loop-path-init g c = record { left = none_taken shelf_path c.args.shelves.now.items; order = c.requires }

pub loop-path-preserved : goal.loop-path-preserved
loop-path-preserved g c = record {
  left = taken_more shelf_path c.args.paths.now c.loop-path.path-index c.path-item.result c.args.shelves.now.items c.loop-path.shelves.items c.take_out.new.shelves.items
      (subst (λ l. c.loop-path.path-index < length l) c.as_slice-path-items.ensures.paths c.loop-path-test.true)
      (subst (λ l. c.path-item.result ≡ get_or l c.loop-path.path-index c.path-item.result) c.as_slice-path-items.ensures.paths c.path-item.is)
      c.loop-path.invariant.left c.take_out.ensures;
  order = subst (AreRising shelf_path) (sym c.take_out.ensures) (AllPairs-filter (IsBelow shelf_path) _ c.loop-path.shelves.items c.loop-path.invariant.order);
}
