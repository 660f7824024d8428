use Rattle.std.proofs.Common.{◌≡◌, ◌++◌, length, map, ap, append-nil, arith, refl, rules, sym, ◌∙◌}
use Rattle.std.specs.Vec.Iter.{into_iter_items}
use Rattle.pass_course.specs.Course.{IsIdle}
use Rattle.site_rounds.specs.Ready.{IsReady}
use Rattle.site_rounds.proofs.Loops.{all_left, all_made, fewer_made, made_of, moved_on, nothing_left}
use Rattle.site_rounds.proofs.rounds.collect.Goals as goal

pub loop-worker-init : goal.loop-worker-init
loop-worker-init g c =
    let items : into_iter_items c.into_iter-worker-iterator.result ≡ c.args.workers.items = search rules in
    record {
      split = items;
      len = search rules;
      left = rw items c.requires.idle;
      ready = c.requires.ready;
      passes = sym (append-nil c.args.passes.now.items);
      room = refl;
    }

pub push_reserved-requires : goal.push_reserved-requires
push_reserved-requires g c =
    let at = c.loop-worker in
    let next = c.in-Some.ensures.steps.0 in
    let few = fewer_made (λ worker. worker.token.actor.pass) at.yielded (into_iter_items at.worker-iterator) (into_iter_items c.next.new.self) c.args.workers.items c.in-Some.worker c.args.passes.now.items at.passes.items at.invariant.passes next at.invariant.split in
    omega (arith, at.passes.ok.0, few, at.invariant.room, c.requires.room)

pub loop-worker-preserved : goal.loop-worker-preserved
loop-worker-preserved g c =
    let at = c.loop-worker in
    let next = c.in-Some.ensures.steps.0 in
    let counts = c.in-Some.ensures.steps.1 in
    let left = all_left (λ worker. (worker.token.actor.site.now ≡ c.args.site.now) × IsIdle c.args.site.now.opening worker.token.actor.pass.number worker.token.actor.pass.seen) (into_iter_items at.worker-iterator) (into_iter_items c.next.new.self) c.in-Some.worker next at.invariant.left in
    let pass = c.into_pass.ensures.pass in
    record {
      split = moved_on at.yielded (into_iter_items at.worker-iterator) (into_iter_items c.next.new.self) c.args.workers.items c.in-Some.worker next at.invariant.split;
      len = let short = ap length next in let was = at.invariant.len in omega arith;
      left = left.1;
      ready = all_made (IsReady c.args.site.now) at.passes.items c.push_reserved.new.self.items c.into_pass.result c.push_reserved.ensures.items at.invariant.ready (
        rw (← left.0.0) c.into_pass.ensures.from,
        rw pass left.0.1,
      );
      passes = made_of (λ worker. worker.token.actor.pass) at.yielded c.args.passes.now.items at.passes.items c.push_reserved.new.self.items c.in-Some.worker c.into_pass.result c.push_reserved.ensures.items at.invariant.passes pass;
      room = c.push_reserved.ensures.capacity ∙ at.invariant.room;
    }

pub loop-worker-preserved-in-Some : goal.loop-worker-preserved-in-Some
loop-worker-preserved-in-Some g c =
    let at = c.loop-worker in
    let next = c.in-Some.ensures.steps.0 in
    let counts = c.in-Some.ensures.steps.1 in
    let left = all_left (λ worker. (worker.token.actor.site.now ≡ c.args.site.now) × IsIdle c.args.site.now.opening worker.token.actor.pass.number worker.token.actor.pass.seen) (into_iter_items at.worker-iterator) (into_iter_items c.next.new.self) c.in-Some.worker next at.invariant.left in
    let pass = c.into_pass.ensures.pass in
    record {
      split = moved_on at.yielded (into_iter_items at.worker-iterator) (into_iter_items c.next.new.self) c.args.workers.items c.in-Some.worker next at.invariant.split;
      len = let short = ap length next in let was = at.invariant.len in omega arith;
      left = left.1;
      ready = all_made (IsReady c.args.site.now) at.passes.items c.push_reserved.new.self.items c.into_pass.result c.push_reserved.ensures.items at.invariant.ready (
        rw (← left.0.0) c.into_pass.ensures.from,
        rw pass left.0.1,
      );
      passes = made_of (λ worker. worker.token.actor.pass) at.yielded c.args.passes.now.items at.passes.items c.push_reserved.new.self.items c.in-Some.worker c.into_pass.result c.push_reserved.ensures.items at.invariant.passes pass;
      room = c.push_reserved.ensures.capacity ∙ at.invariant.room;
    }

pub returns-clause-passes : goal.returns-clause-passes
returns-clause-passes g c =
    let at = c.loop-worker in
    let done = nothing_left at.yielded (into_iter_items at.worker-iterator) c.args.workers.items (omega (arith, at.invariant.len, c.in-None.ensures.steps.0)) at.invariant.split in
    at.invariant.passes ∙ ap (λ workers. c.args.passes.now.items ++ map (λ worker. worker.token.actor.pass) workers) done
