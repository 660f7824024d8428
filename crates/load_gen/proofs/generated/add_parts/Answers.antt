use Rattle.load_gen.specs.Messages.{first_part, message_text}
use Rattle.load_gen.proofs.SentLemmas.{grown, sent_one_more}
use Rattle.load_gen.proofs.generated.add_parts.Goals as goal

pub loop-part-preserved : goal.loop-part-preserved
loop-part-preserved c = grown _ _ _ (message_text (first_part c.loop-part.part)) _ _ c.in_ok-add_part.ensures c.loop-part.invariant (sent_one_more first_part c.loop-part.part)
