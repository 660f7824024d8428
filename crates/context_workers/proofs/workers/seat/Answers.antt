use Rattle.std.proofs.Common.{◌≡◌, ◌++◌, [], ◌∷◌, All, None, length, map, ap, arith, refl, subst, sym}
use Rattle.std.proofs.lemmas.List.{length-append}
use Rattle.std.proofs.lemmas.List.Elements.{All-push}
use Rattle.pass_course.specs.Course.{IsIdle}
use Rattle.context_workers.proofs.Taken.{fewer_still, left_over}
use Rattle.context_workers.proofs.workers.seat.Goals as goal

pub ports_of-requires-clause-some : goal.ports_of-requires-clause-some
ports_of-requires-clause-some g c =
    left_over c.loop.counter 1 (map (λ own. own.items) c.args.passes.now) (map (λ own. own.items) c.loop.passes) c.loop.invariant.fewer
    (λ k d within. let enough = c.requires.enough k d within in omega (arith, c.loop-test.true))

pub loop-preserved : goal.loop-preserved
loop-preserved g c =
    let at = c.loop in
    let made = c.in_ok-ports_of.ensures in
    let items : c.push_reserved.new.self.items ≡ at.workers.items ++ record { token = c.in_ok-ports_of.field-0; closing = None } ∷ [] = c.push_reserved.ensures.items in
    record {
      seated = made.seated;
      fewer = fewer_still at.counter (map (λ own. own.items) c.args.passes.now) (map (λ own. own.items) at.passes) (map (λ own. own.items) c.ports_of.new.passes) at.invariant.fewer made.fewer;
      done = let one_more = ap length items in let sum = length-append at.workers.items (record { token = c.in_ok-ports_of.field-0; closing = None } ∷ []) in omega (arith, at.invariant.done);
      room = omega (arith, c.push_reserved.ensures.capacity, at.invariant.room);
      sites = subst (All (λ worker. map (λ port. port.actor.site.now) worker.token.ports.items ≡ c.args.sites.now)) (sym items)
          (All-push (λ worker. map (λ port. port.actor.site.now) worker.token.ports.items ≡ c.args.sites.now) at.workers.items _ at.invariant.sites made.sites);
      idle = subst (All (λ worker. All (λ port. IsIdle port.actor.site.now.opening port.actor.pass.number port.actor.pass.seen) worker.token.ports.items)) (sym items)
          (All-push (λ worker. All (λ port. IsIdle port.actor.site.now.opening port.actor.pass.number port.actor.pass.seen) worker.token.ports.items) at.workers.items _ at.invariant.idle made.idle);
      apart = subst (All (λ worker. worker.closing ≡ None)) (sym items) (All-push (λ worker. worker.closing ≡ None) at.workers.items _ at.invariant.apart refl);
    }
