use Rattle.word_equality.proofs.SameEntries.{attrs_decide}
use Rattle.word_equality.proofs.attributes.AttrsSame.is_same.Goals as goal

pub returns : goal.returns
returns c = attrs_decide c.are_same.result _ _ c.args.self.now c.args.other.now c.as_slice.ensures.entries c.as_slice-2.ensures.entries c.are_same.ensures
