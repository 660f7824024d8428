use Rattle.std.proofs.Common.{refl, ◌∙◌}
use Rattle.pages_server.proofs.Leading.{leads_on, stays}
use Rattle.pages_server.proofs.working.work.Goals as goal

pub loop-init : goal.loop-init
loop-init g c = record {
  fits = c.requires;
  number = refl;
  worked = stays (g.H.Handler.handled c.args.endpoint.now.handler) c.args.served.now.token;
}

pub loop-preserved-in-Ok-Pair : goal.loop-preserved-in-Ok-Pair
loop-preserved-in-Ok-Pair g c = record {
  fits = c.handle.ensures.fits;
  number = c.handle.ensures.number ∙ c.loop.invariant.number;
  worked = leads_on (g.H.Handler.handled c.args.endpoint.now.handler) c.args.served.now.token c.loop.served.token c.handle.new.token c.loop.invariant.worked c.handle.ensures.handled;
}
