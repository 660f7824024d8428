use Rattle.std.proofs.Common.{take, sym, subst}
use Rattle.page_pieces.specs.ReadFirsts.{HasFirsts}
use Rattle.page_pieces.proofs.FirstLemmas.{firsts_none, front_len}
use Rattle.page_pieces.proofs.RepeatLemmas.{front_more}
use Rattle.page_pieces.proofs.firsts.firsts_of.Goals as goal

pub loop-i-init : goal.loop-i-init
loop-i-init c = firsts_none c.new-firsts.result c.new-firsts.ensures.empty

pub loop-i-preserved : goal.loop-i-preserved
loop-i-preserved c =
    let i = c.loop-i.i in
    let attributes = c.args.attributes.now in
    subst (HasFirsts c.insert_new.new.firsts) (sym (front_more attributes i c.index-attributes-i.result c.loop-i-test.true c.index-attributes-i.is))
    (c.in_ok-insert_new.ensures (take i attributes) (front_len attributes i c.loop-i-test.true) c.loop-i.invariant)
