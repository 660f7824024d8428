use Rattle.std.proofs.Common.{ap, arith, length}
use Rattle.pg_value.proofs.BlockLoops.{behind, behind_some, gone, seen_in_block}
use Rattle.pg_value.proofs.blocks.from.Goals as goal

pub loop-block-preserved : goal.loop-block-preserved
loop-block-preserved c = record {
  rest = behind c.args.blocks.now c.loop-block.block-index c.loop-block.left c.len-count.result c.block-item.result _ (omega arith) c.block-item.is c.len-count.ensures c.if-left-count.false c.loop-block.invariant.rest;
  some = λ there. behind_some c.args.blocks.now c.loop-block.block-index c.loop-block.left c.len-count.result c.block-item.result (omega arith) c.block-item.is c.len-count.ensures c.if-left-count.false (c.loop-block.invariant.some there);
}

-- in this block
pub returns-then-left-count-clause-same : goal.returns-then-left-count-clause-same
returns-then-left-count-clause-same c =
    seen_in_block c.args.blocks.now c.loop-block.block-index c.loop-block.left c.block-item.result _ c.as_slice.result.now c.from.result.now (omega arith) c.block-item.is (omega (arith, c.len-count.ensures, c.if-left-count.true))
    c.as_slice.ensures.entries c.from.ensures.same c.loop-block.invariant.rest

pub returns-then-left-count-clause-some : goal.returns-then-left-count-clause-some
returns-then-left-count-clause-some c = λ _. c.from.ensures.some (omega (arith, c.len-count.ensures, c.if-left-count.true, ap length c.as_slice.ensures.entries))

-- behind all blocks
pub returns-clause-some : goal.returns-clause-some
returns-clause-some c = λ there. absurd (gone c.args.blocks.now c.loop-block.block-index c.loop-block.left (omega arith) (c.loop-block.invariant.some there))
