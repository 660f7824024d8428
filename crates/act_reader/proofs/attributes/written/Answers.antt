use Rattle.std.proofs.Common.{arith}
use Rattle.unit_meaning.specs.Kinds.{statics_of}
use Rattle.unit_nodes.specs.Views.{kind_of}
use Rattle.act_reader.proofs.WrittenLemmas.{next_written}
use Rattle.act_reader.proofs.attributes.written.Goals as goal

pub loop-attribute-preserved : goal.loop-attribute-preserved
loop-attribute-preserved c =
    next_written (statics_of (kind_of c.args.kind.now)) c.args.attributes.now c.loop-attribute.attribute-index c.attribute-item.result _ _ _ (omega arith) c.attribute-item.is c.loop-attribute.invariant
    c.in_ok-add_written.ensures
