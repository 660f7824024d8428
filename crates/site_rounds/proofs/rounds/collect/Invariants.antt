use Rattle.std.proofs.Common.{◌≡◌, ◌++◌, All, length, map, vec_capacity}
use Rattle.std.specs.Vec.Iter.{into_iter_items, into_iter_len}
use Rattle.pass_course.specs.Course.{IsIdle}
use Rattle.site_rounds.specs.Ready.{IsReady}
use Rattle.site_rounds.proofs.rounds.collect.Given as goal

abbrev pub invariant-loop-worker : goal.invariant-loop-worker
invariant-loop-worker g l = record {
  split : l.yielded ++ into_iter_items l.worker-iterator ≡ l.fn.workers.items;
  len : into_iter_len l.worker-iterator ≡ length (into_iter_items l.worker-iterator);
  left : All (λ worker. (worker.token.actor.site.now ≡ l.site) × IsIdle l.site.opening worker.token.actor.pass.number worker.token.actor.pass.seen) (into_iter_items l.worker-iterator);
  ready : All (IsReady l.site) l.passes.items;
  passes : l.passes.items ≡ l.fn.passes.items ++ map (λ worker. worker.token.actor.pass) l.yielded;
  room : vec_capacity l.passes ≡ vec_capacity l.fn.passes;
}
