use Rattle.std.proofs.Common.{◌++◌, take, subst}
use Rattle.page_directives.specs.ReadKnown.{HasFirst}
use Rattle.page_directives.proofs.KnownLemmas.{front_more}
use Rattle.page_directives.proofs.known.add_first.Goals as goal

pub loop-attribute-preserved : goal.loop-attribute-preserved
loop-attribute-preserved c all has =
    let i = c.loop-attribute.attribute-index in
    subst (HasFirst c.add_new.new.known) (front_more all c.args.attributes.now i c.attribute-item.result c.loop-attribute-test.true c.attribute-item.is)
    (c.in_ok-add_new.ensures (all ++ take i c.args.attributes.now) (c.loop-attribute.invariant all has))
