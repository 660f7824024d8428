use Rattle.std.proofs.Common.{ap, arith}
use Rattle.std.proofs.lemmas.List.{drop_all}
use Rattle.pg_value.specs.Datum.{entries_of}
use Rattle.pg_value.specs.Depth.{entries_depth}
use Rattle.pg_value.specs.ReadEntries.{joined}
use Rattle.pg_value.specs.Weight.{entries_weight}
use Rattle.pg_value.proofs.BlockLoops.{measured_deep, weighed}
use Rattle.pg_value.proofs.blocks.measures.Goals as goal

pub loop-block-preserved : goal.loop-block-preserved
loop-block-preserved c =
    let heavy = weighed c.args.blocks.now c.loop-block.block-index c.loop-block.sum _ c.weight.result c.block-item.result (omega arith) c.block-item.is c.loop-block.invariant.least c.weight.ensures c.loop-block.invariant.sum in
    let deep = measured_deep c.args.blocks.now c.loop-block.block-index c.loop-block.deepest _ c.depth.result c.block-item.result (omega arith) c.block-item.is c.depth.ensures c.loop-block.invariant.deepest in
    record {
      least = omega (arith, c.loop-block.invariant.least, c.saturating_add-sum.ensures);
      most = omega (arith, c.saturating_add-sum.ensures);
      some = omega (arith, c.loop-block.invariant.some, c.max-deepest.ensures);
      below = omega (arith, c.loop-block.invariant.below, c.depth.ensures, c.max-deepest.ensures);
      sum = omega (arith, heavy, c.saturating_add-sum.ensures);
      deepest = omega (arith, deep, c.max-deepest.ensures);
    }

pub returns-clause-weight : goal.returns-clause-weight
returns-clause-weight c =
    omega (arith, c.loop-block.invariant.sum, ap (λ bs. entries_weight (entries_of (joined bs))) (drop_all c.loop-block.block-index c.args.blocks.now (omega arith)))

pub returns-clause-depth : goal.returns-clause-depth
returns-clause-depth c =
    omega (arith, c.loop-block.invariant.deepest, ap (λ bs. entries_depth (entries_of (joined bs))) (drop_all c.loop-block.block-index c.args.blocks.now (omega arith)))
