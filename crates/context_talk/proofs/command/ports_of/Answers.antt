use Rattle.std.proofs.Common.{length}
use Rattle.context_talk.proofs.SiteLemmas.{all_rest}
use Rattle.context_talk.proofs.command.ports_of.Goals as goal

pub ports-requires : goal.ports-requires
ports-requires c = record { rest = rw c.in_ok-start.ensures (all_rest c.args.seed (length c.args.names.now)) }
