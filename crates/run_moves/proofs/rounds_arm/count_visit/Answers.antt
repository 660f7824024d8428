use Rattle.std.proofs.Common.{◌∙◌, sym}
use Rattle.run_moves.proofs.RoundArms.{visit_counted, visit_refused}
use Rattle.run_moves.proofs.rounds_arm.count_visit.Goals as goal

pub returns-then-visit-clause-does : goal.returns-then-visit-clause-does
returns-then-visit-clause-does g c =
    visit_counted g.W.World.visits (λ first w origin s h. (g.met.W.World.tells first w origin s h).2) c.args.world.now c.visit.new.self (sym c.visit.ensures.counts ∙ c.if-visit.true) (c.visit.ensures.counted c.if-visit.true)
    c.visit.ensures.replies

pub returns-else-visit-clause-does : goal.returns-else-visit-clause-does
returns-else-visit-clause-does g c =
    visit_refused g.W.World.visits (λ first w origin s h. (g.met.W.World.tells first w origin s h).2) c.args.world.now c.visit.new.self (sym c.visit.ensures.counts ∙ c.if-visit.false) (c.visit.ensures.same c.if-visit.false)
    c.visit.ensures.replies
