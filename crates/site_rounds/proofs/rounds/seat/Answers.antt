use Rattle.std.proofs.Common.{◌≡◌, None, length, ap, arith, refl, sym, subst}
use Rattle.std.specs.Vec.Iter.{into_iter_items}
use Rattle.site_rounds.specs.Ready.{IsReady}
use Rattle.site_rounds.proofs.Loops.{all_left, all_made, fewer, moved_on, seen_of}
use Rattle.site_rounds.proofs.rounds.seat.Goals as goal

pub push_reserved-requires : goal.push_reserved-requires
push_reserved-requires g c =
    let at = c.loop-pass in
    let next = c.in-Some.ensures.steps.0 in
    let few = fewer (λ worker. worker.token.actor.pass) at.workers.items at.yielded (into_iter_items at.pass-iterator) (into_iter_items c.next.new.self) c.args.passes.items c.in-Some.pass at.invariant.passes next at.invariant.split in
    omega (arith, at.workers.ok.0, few, at.invariant.room)

pub loop-pass-preserved : goal.loop-pass-preserved
loop-pass-preserved g c =
    let at = c.loop-pass in
    let next = c.in-Some.ensures.steps.0 in
    let counts = c.in-Some.ensures.steps.1 in
    let left = all_left (IsReady c.args.site.now) (into_iter_items at.pass-iterator) (into_iter_items c.next.new.self) c.in-Some.pass next at.invariant.left in
    let pass = c.port.ensures.pass in
    record {
      split = moved_on at.yielded (into_iter_items at.pass-iterator) (into_iter_items c.next.new.self) c.args.passes.items c.in-Some.pass next at.invariant.split;
      len = let short = ap length next in let was = at.invariant.len in omega arith;
      left = left.1;
      ready = all_made (λ worker. (worker.token.actor.site.now ≡ c.args.site.now) × IsReady c.args.site.now worker.token.actor.pass) at.workers.items c.push_reserved.new.self.items _ c.push_reserved.ensures.items at.invariant.ready (c.port.ensures.site, subst (IsReady c.args.site.now) (sym pass) left.0);
      passes = seen_of (λ worker. worker.token.actor.pass) at.workers.items c.push_reserved.new.self.items at.yielded _ c.in-Some.pass c.push_reserved.ensures.items at.invariant.passes pass;
      apart = all_made (λ worker. worker.closing ≡ None) at.workers.items c.push_reserved.new.self.items _ c.push_reserved.ensures.items at.invariant.apart refl;
      room = omega (arith, c.push_reserved.ensures.capacity, at.invariant.room);
    }
