use Rattle.std.proofs.Common.{◌∙◌, sym, subst}
use Rattle.pg_text.specs.Order.{AreRising}
use Rattle.dep_graph.specs.Deps.{name_of}
use Rattle.dep_graph.proofs.IndexLemmas.{unlisted_more, unlisted_order}
use Rattle.dep_graph.proofs.index.remove_all.Goals as goal

pub loop-name-preserved : goal.loop-name-preserved
loop-name-preserved c = record {
  left = unlisted_more _ _ _ c.name-item.result _ _ c.loop-name-test.true c.name-item.is c.remove.ensures ∙ c.loop-name.invariant.left;
  order = subst (AreRising name_of) (sym c.remove.ensures) (unlisted_order c.args.path.now c.name-item.result c.loop-name.index.items c.loop-name.invariant.order);
}
