use Rattle.std.proofs.Common.{arith, true, ◌+◌, ◌-◌, ◌/◌}
use Rattle.pg_value.proofs.BlockPlaces.{place_found, read_before, read_begin}
use Rattle.pg_value.proofs.blocks.place.Goals as goal

pub loop-low-preserved-then-is_behind : goal.loop-low-preserved-then-is_behind
loop-low-preserved-then-is_behind c = record {
  least = c.loop-low.invariant.least;
  most = omega arith;
  within = omega (arith, c.loop-low.invariant.within);
  from = c.loop-low.invariant.from;
  to = λ more. read_begin c.args.key.now c.args.blocks.now _ c.index-blocks-middle.result c.is_behind.result true more c.index-blocks-middle.is c.is_behind.ensures c.if-is_behind.true;
}

pub loop-low-preserved : goal.loop-low-preserved
loop-low-preserved c = record {
  least = omega arith;
  most = omega arith;
  within = c.loop-low.invariant.within;
  from = λ later. read_before c.args.key.now c.args.blocks.now (c.loop-low.low + (c.loop-low.high - c.loop-low.low) / 2) c.index-blocks-middle.result c.is_behind.result (omega (arith, c.loop-low.invariant.within)) c.index-blocks-middle.is c.is_behind.ensures c.if-is_behind.false;
  to = c.loop-low.invariant.to;
}

pub returns : goal.returns
returns c =
    place_found c.args.key.now c.args.blocks.now c.loop-low.low c.loop-low.high c.loop-low.invariant.least c.loop-low.invariant.most c.loop-low.invariant.within c.loop-low.invariant.from c.loop-low.invariant.to (omega arith)
