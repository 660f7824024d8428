use Rattle.std.proofs.Common.{arith, refl, sym, ◌∙◌}
use Rattle.journal_reader.proofs.RisingLemmas.{all_rise, out_of_order, rise_more}
use Rattle.journal_reader.proofs.rising.are_rising.Goals as goal

pub returns-then-not-stands_before : goal.returns-then-not-stands_before
returns-then-not-stands_before g c = (
  λ is. absurd (cc),
  λ order. absurd (out_of_order g.T.Keyed.key c.args.items.now c.loop-at.at _ _ c.index-items-at.is c.index-items-at-in-loop-at.is (omega arith) c.loop-at-test.true (sym c.stands_before.ensures ∙ c.if-not-stands_before.true) order),
)

pub loop-at-preserved : goal.loop-at-preserved
loop-at-preserved g c =
    rise_more g.T.Keyed.key c.args.items.now c.loop-at.at _ _ c.index-items-at.is c.index-items-at-in-loop-at.is (omega arith) c.loop-at-test.true (sym c.stands_before.ensures ∙ c.if-not-stands_before.false) c.loop-at.invariant

pub returns : goal.returns
returns g c = (λ is. all_rise g.T.Keyed.key c.args.items.now c.loop-at.at (omega arith) c.loop-at.invariant, λ order. refl)
