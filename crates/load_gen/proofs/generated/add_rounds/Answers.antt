use Rattle.load_gen.specs.Messages.{round, sent}
use Rattle.load_gen.proofs.SentLemmas.{grown, sent_round_more}
use Rattle.load_gen.proofs.generated.add_rounds.Goals as goal

pub loop-change-preserved : goal.loop-change-preserved
loop-change-preserved c =
    grown _ _ _ (sent (round c.args.number c.loop-change.change)) _ _ c.in_ok-add_round.ensures c.loop-change.invariant (sent_round_more c.args.number c.loop-change.change)
