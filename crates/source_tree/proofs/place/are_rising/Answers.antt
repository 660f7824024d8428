use Rattle.std.proofs.Common.{arith, sym, ◌∙◌}
use Rattle.source_tree.proofs.RisingLemmas.{out_of_order, rise_more}
use Rattle.source_tree.proofs.place.are_rising.Goals as goal

pub returns-then-not-stands_before : goal.returns-then-not-stands_before
returns-then-not-stands_before c = (
  λ is. absurd (cc),
  λ order. absurd (out_of_order c.args.files.now c.loop-at.at _ _ c.index-files-at.is c.index-files-at-in-loop-at.is (omega arith) c.loop-at-test.true (sym c.stands_before.ensures ∙ c.if-not-stands_before.true) order),
)

pub loop-at-preserved : goal.loop-at-preserved
loop-at-preserved c = rise_more c.args.files.now c.loop-at.at _ _ c.index-files-at.is c.index-files-at-in-loop-at.is (omega arith) c.loop-at-test.true (sym c.stands_before.ensures ∙ c.if-not-stands_before.false) c.loop-at.invariant
