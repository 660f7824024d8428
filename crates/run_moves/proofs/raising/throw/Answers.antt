use Rattle.std.proofs.Common.{subst}
use Rattle.run_moves.specs.Acted.{Acted}
use Rattle.run_moves.specs.Opened.{open_of}
use Rattle.run_moves.proofs.raising.throw.Goals as goal
use Rattle.page_table.specs.Landing.{thrown}
use Rattle.page_table.specs.Move.{On}

pub returns-clause-acted : goal.returns-clause-acted
returns-clause-acted g c =
    subst
    (λ place. Acted g.W.World.reached g.W.World.replies (λ s. On (thrown c.args.fault place s (open_of c.args.opened.now))) c.args.world.now c.throw_at.new.world (open_of c.throw_at.new.opened) c.throw_at.result)
    c.get.ensures c.throw_at.ensures.acted
