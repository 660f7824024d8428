use Rattle.std.proofs.Common.{◌+◌, sym, ap, ◌∙◌, subst, length, ◌<◌, ◌≡◌, suc, arith}
use Rattle.dep_graph.specs.Deps.{let_go}
use Rattle.dep_graph.proofs.TogetherLemmas.{walked}
use Rattle.dep_graph.proofs.index.let_all_go.Goals as goal

pub loop-named-preserved : goal.loop-named-preserved
loop-named-preserved c =
    let next : c.loop-named.named-index + 1 ≡ suc c.loop-named.named-index = omega arith in
    walked (let_go c.args.paths.now) c.args.index.now.items c.loop-named.named-items c.loop-named.named-index (c.loop-named.named-index + 1) c.named-item.result _ next
    (subst (λ l. c.loop-named.named-index < length l) c.deref_mut-named-items.ensures.value c.loop-named-test.true)
    c.loop-named.invariant c.named-item.is (c.let_go.ensures ∙ ap (let_go c.args.paths.now) (sym c.named-item.is))
