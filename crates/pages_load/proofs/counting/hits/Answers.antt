use Rattle.std.proofs.Common.{arith}
use Rattle.pages_load.specs.Load.{is_hit}
use Rattle.pages_load.proofs.CountLemmas.{next_entry}
use Rattle.pages_load.proofs.counting.hits.Goals as goal

pub loop-place-preserved : goal.loop-place-preserved
loop-place-preserved c = record {
  counted = next_entry is_hit c.args.history.now.items c.loop-place.place c.loop-place.count c.hit_at-count.result (omega (arith, c.loop-place-test.true, c.len-place-end.ensures)) c.hit_at-count.ensures.value c.loop-place.invariant.counted;
  few = omega (arith, c.loop-place.invariant.few, c.hit_at-count.ensures.small);
}
