use Rattle.std.proofs.Common.{◌++◌, ap, ◌∙◌}
use Rattle.load_gen.specs.Messages.{asked, message_text}
use Rattle.load_gen.proofs.SentLemmas.{grown, sent_one_more}
use Rattle.load_gen.proofs.generated.add_asked.Goals as goal

pub loop-turn-preserved : goal.loop-turn-preserved
loop-turn-preserved c =
    let added = c.in_ok-add_message.ensures ∙ ap (λ m. c.loop-turn.bytes.items ++ message_text m) c.in_ok-message.ensures in
    let next = asked c.args.number c.args.change in
    grown _ _ _ (message_text (next c.loop-turn.turn)) _ _ added c.loop-turn.invariant (sent_one_more next c.loop-turn.turn)
