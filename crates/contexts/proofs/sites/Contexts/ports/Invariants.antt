use Rattle.std.proofs.Common.{◌≡◌, ◌++◌, All, length, map}
use Rattle.std.specs.Vec.Iter.{into_iter_items, into_iter_len}
use Rattle.contexts.specs.Sites.{Rests}
use Rattle.contexts.proofs.sites.Contexts.ports.Given as goal

abbrev pub invariant-loop-site : goal.invariant-loop-site
invariant-loop-site g l = record {
  split : l.yielded ++ into_iter_items l.site-iterator ≡ l.fn.self.sites.items;
  len : into_iter_len l.site-iterator ≡ length (into_iter_items l.site-iterator);
  left : All Rests (into_iter_items l.site-iterator);
  ports : map (λ port. port.actor.site) l.list.ports.items ≡ l.yielded;
}
