use Rattle.std.proofs.Common.{arith}
use Rattle.std.proofs.lemmas.List.{take_rest}
use Rattle.pages_load.specs.Load.{good_mark}
use Rattle.pages_load.proofs.PlaceLemmas.{next_place}
use Rattle.pages_load.proofs.counting.good_answers.Goals as goal

pub loop-at-preserved : goal.loop-at-preserved
loop-at-preserved c = record {
  counted = next_place good_mark c.args.text.now c.loop-at.at c.loop-at.count c.good_here-count.result c.loop-at-test.true (rw (take_rest c.args.text.now c.loop-at.at) at c.good_here-count.ensures.value) c.loop-at.invariant.counted;
  few = omega (arith, c.loop-at.invariant.few, c.good_here-count.ensures.small);
}
