use Rattle.std.proofs.Common.{◌≡◌, All, map, take}
use Rattle.pass_course.specs.Course.{IsIdle}
use Rattle.site_rounds.specs.Ready.{IsReady}
use Rattle.context_workers.specs.Seats.{AreSeated}
use Rattle.context_workers.proofs.Taken.{IsTakenBelow}
use Rattle.context_workers.proofs.workers.ports_of.Given as goal

abbrev pub invariant-loop-context : goal.invariant-loop-context
invariant-loop-context g l = record {
  seated : AreSeated IsReady l.sites (map (λ own. own.items) l.passes);
  taken : IsTakenBelow l.context (map (λ own. own.items) l.fn.passes) (map (λ own. own.items) l.passes);
  sites : map (λ port. port.actor.site.now) l.ports.ports.items ≡ take l.context l.sites;
  idle : All (λ port. IsIdle port.actor.site.now.opening port.actor.pass.number port.actor.pass.seen) l.ports.ports.items;
}
