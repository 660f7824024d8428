use Rattle.std.proofs.Common.{ap, arith, length}
use Rattle.std.proofs.lemmas.List.{drop_all}
use Rattle.pg_value.specs.ReadEntries.{joined}
use Rattle.pg_value.proofs.BlockLoops.{counted}
use Rattle.pg_value.proofs.blocks.count.Goals as goal

pub overflow_add-count : goal.overflow_add-count
overflow_add-count c =
    let next = counted c.args.blocks.now c.loop-block.block-index (length (joined c.args.blocks.now)) c.loop-block.count c.block-item.result (omega arith) c.block-item.is c.loop-block.invariant in
    omega (arith, next, c.len-count.ensures, c.requires)

pub loop-block-preserved : goal.loop-block-preserved
loop-block-preserved c =
    let next = counted c.args.blocks.now c.loop-block.block-index (length (joined c.args.blocks.now)) c.loop-block.count c.block-item.result (omega arith) c.block-item.is c.loop-block.invariant in
    omega (arith, next, c.len-count.ensures)

pub returns : goal.returns
returns c = omega (arith, c.loop-block.invariant, ap (λ bs. length (joined bs)) (drop_all c.loop-block.block-index c.args.blocks.now (omega arith)))
