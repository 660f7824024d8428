use Rattle.std.proofs.Common.{◌+◌, ◌-◌, arith, refl, sym, ◌∙◌}
use Rattle.pg_text.specs.declared.failure.Failure.TheVariants as failure
use Rattle.pg_value.specs.declared.fault.RunFault.TheVariants as fault
use Rattle.run_parts.proofs.Visits.{none_left, one_counted, one_less, one_more}
use Rattle.run_parts.proofs.operations.count_visits.Goals as goal
use Rattle.run_world.proofs.Parts.{well_doing}

pub loop-counted-init : goal.loop-counted-init
loop-counted-init g c = record { covered = c.requires.covered; counted = well_doing c.args.world.now tt }

pub loop-counted-preserved : goal.loop-counted-preserved
loop-counted-preserved g c = record {
  covered = c.visit.ensures.covered;
  counted = one_more g.W.World.visits (λ first w origin s h. (g.met.W.World.tells first w origin s h).2) c.args.world.now c.loop-counted.world c.visit.new.self c.loop-counted._counted (c.loop-counted._counted + 1) refl
      c.loop-counted.invariant.counted
      (one_counted g.W.World.visits (λ first w origin s h. (g.met.W.World.tells first w origin s h).2) c.loop-counted.world c.visit.new.self (sym c.visit.ensures.counts ∙ c.if-not-visit.false)
      (c.visit.ensures.counted c.if-not-visit.false) c.visit.ensures.replies);
}

pub returns-then-not-visit-clause-does : goal.returns-then-not-visit-clause-does
returns-then-not-visit-clause-does g c =
    one_less g.W.World.visits (λ first w origin s h. (g.met.W.World.tells first w origin s h).2) c.args.world.now c.loop-counted.world c.visit.new.self c.loop-counted._counted
    (c.args.count - (c.loop-counted._counted + 1)) c.args.count (failure.Fault fault.TooMuchWork) (omega arith) c.loop-counted.invariant.counted
    (none_left g.W.World.visits (λ first w origin s h. (g.met.W.World.tells first w origin s h).2) c.loop-counted.world c.visit.new.self (sym c.visit.ensures.counts ∙ c.if-not-visit.true)
    (c.visit.ensures.same c.if-not-visit.true) c.visit.ensures.replies)
