use Rattle.std.proofs.Common.{◌≡◌, ◌≤◌, All, None, length, map, vec_capacity}
use Rattle.pass_course.specs.Course.{IsIdle}
use Rattle.site_rounds.specs.Ready.{IsReady}
use Rattle.context_workers.specs.Seats.{AreSeated, HaveFewer}
use Rattle.context_workers.proofs.workers.seat.Given as goal

abbrev pub invariant-loop : goal.invariant-loop
invariant-loop g l = record {
  seated : AreSeated IsReady l.sites (map (λ own. own.items) l.passes);
  fewer : HaveFewer l.counter (map (λ own. own.items) l.fn.passes) (map (λ own. own.items) l.passes);
  done : length l.workers.items ≡ l.counter;
  room : l.fn.count ≤ vec_capacity l.workers;
  sites : All (λ worker. map (λ port. port.actor.site.now) worker.token.ports.items ≡ l.sites) l.workers.items;
  idle : All (λ worker. All (λ port. IsIdle port.actor.site.now.opening port.actor.pass.number port.actor.pass.seen) worker.token.ports.items) l.workers.items;
  apart : All (λ worker. worker.closing ≡ None) l.workers.items;
}
