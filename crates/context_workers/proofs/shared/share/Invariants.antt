use Rattle.std.proofs.Common.{◌≡◌, ◌++◌, All, length, map}
use Rattle.std.specs.Vec.Iter.{into_iter_items, into_iter_len}
use Rattle.contexts.specs.Sites.{Rests}
use Rattle.site_rounds.specs.Ready.{IsReady}
use Rattle.context_workers.specs.Seats.{AreSeated}
use Rattle.context_workers.proofs.shared.share.Given as goal

abbrev pub invariant-loop-port : goal.invariant-loop-port
invariant-loop-port g l = record {
  split : map (λ port. port.actor.site) (l.yielded ++ into_iter_items l.port-iterator) ≡ l.fn.contexts.sites.items;
  len : into_iter_len l.port-iterator ≡ length (into_iter_items l.port-iterator);
  left : All (λ port. Rests port.actor.site) (into_iter_items l.port-iterator);
  count : length l.sites.items ≡ length l.yielded;
  seated : AreSeated IsReady l.sites.items (map (λ own. own.items) l.passes.items);
  passes : map length (map (λ own. own.items) l.passes.items) ≡ map (λ port. port.actor.site.opening.passes) l.yielded;
}
