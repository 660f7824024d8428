use Rattle.std.proofs.Common.{length, ap, arith}
use Rattle.std.specs.Vec.Iter.{into_iter_items}
use Rattle.contexts.proofs.Loops.{all_left, moved_on, seen_of}
use Rattle.contexts.specs.Sites.{Rests}
use Rattle.contexts.proofs.sites.Contexts.ports.Goals as goal

pub loop-site-preserved : goal.loop-site-preserved
loop-site-preserved g c =
    let at = c.loop-site in
    let next = c.in-Some.ensures.steps.0 in
    let left = all_left Rests (into_iter_items at.site-iterator) (into_iter_items c.next.new.self) c.in-Some.site next at.invariant.left in
    record {
      split = moved_on at.yielded (into_iter_items at.site-iterator) (into_iter_items c.next.new.self) c.args.self.sites.items c.in-Some.site next at.invariant.split;
      len = let short = ap length next in let was = at.invariant.len in let counts = c.in-Some.ensures.steps.1 in omega arith;
      left = left.1;
      ports = seen_of (λ port. port.actor.site) at.list.ports.items c.push.new.self.ports.items at.yielded c.solo.result c.in-Some.site c.in_ok-push.ensures.ok at.invariant.ports c.solo.ensures;
    }

pub solo-requires : goal.solo-requires
solo-requires g c = (all_left Rests (into_iter_items c.loop-site.site-iterator) (into_iter_items c.next.new.self) c.in-Some.site c.in-Some.ensures.steps.0 c.loop-site.invariant.left).0
