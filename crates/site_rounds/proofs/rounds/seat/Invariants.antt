use Rattle.std.proofs.Common.{◌≡◌, ◌≤◌, ◌++◌, All, None, length, map, vec_capacity}
use Rattle.std.specs.Vec.Iter.{into_iter_items, into_iter_len}
use Rattle.site_rounds.specs.Ready.{IsReady}
use Rattle.site_rounds.proofs.rounds.seat.Given as goal

abbrev pub invariant-loop-pass : goal.invariant-loop-pass
invariant-loop-pass g l = record {
  split : l.yielded ++ into_iter_items l.pass-iterator ≡ l.fn.passes.items;
  len : into_iter_len l.pass-iterator ≡ length (into_iter_items l.pass-iterator);
  left : All (IsReady l.site) (into_iter_items l.pass-iterator);
  ready : All (λ worker. (worker.token.actor.site.now ≡ l.site) × IsReady l.site worker.token.actor.pass) l.workers.items;
  passes : map (λ worker. worker.token.actor.pass) l.workers.items ≡ l.yielded;
  apart : All (λ worker. worker.closing ≡ None) l.workers.items;
  room : length l.fn.passes.items ≤ vec_capacity l.workers;
}
