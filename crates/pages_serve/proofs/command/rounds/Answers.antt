use Rattle.std.proofs.Common.{refl}
use Rattle.pages_server.proofs.Leading.{leads_on, stays}
use Rattle.pages_serve.proofs.Rounds.{one_round}
use Rattle.pages_serve.proofs.command.rounds.Goals as goal

pub loop-init : goal.loop-init
loop-init g c = record {
  rest = c.requires;
  drafts = refl;
  rounds = stays _ _;
}

pub loop-preserved : goal.loop-preserved
loop-preserved g c = record {
  rest = c.onward-site.ensures.rest;
  drafts = c.loop.invariant.drafts;
  rounds =
      let round = c.in-Ok.ensures in
      leads_on _ _ _ _ c.loop.invariant.rounds (one_round _ _ _ _ _ _ _ _ _ c.loop.invariant.drafts round.opening round.is_legal round.served c.onward-site.ensures.goes_on);
}
