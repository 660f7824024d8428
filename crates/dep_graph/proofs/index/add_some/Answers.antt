use Rattle.std.proofs.Common.{sym, subst}
use Rattle.pg_text.specs.Order.{AreRising}
use Rattle.dep_graph.specs.Deps.{name_of}
use Rattle.dep_graph.proofs.IndexLemmas.{done_where, indexed_more, indexed_order}
use Rattle.dep_graph.proofs.index.add_some.Goals as goal

pub loop-at-preserved : goal.loop-at-preserved
loop-at-preserved c =
    let is = done_where c.add.result c.if-is_err.ensures.value c.add.ensures.ok in
    record {
      so_far = indexed_more c.args.path.now c.args.names.now c.loop-at.at _ c.loop-at.index.items c.args.index.now.items _ c.loop-at-test.true c.index-names-at.is c.loop-at.invariant.so_far is;
      order = subst (AreRising name_of) (sym is) (indexed_order c.args.path.now _ c.loop-at.index.items c.loop-at.invariant.order);
    }
