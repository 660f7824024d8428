use Rattle.std.proofs.Common.{subst}
use Rattle.run_moves.specs.Acted.{Acted}
use Rattle.run_moves.specs.Landing.{failing}
use Rattle.run_moves.specs.Opened.{open_of}
use Rattle.run_moves.proofs.landing.fail.Goals as goal

pub returns-clause-acted : goal.returns-clause-acted
returns-clause-acted g c =
    subst
    (λ place. Acted g.W.World.reached g.W.World.replies (failing place (open_of c.args.opened.now) c.args.failed) c.args.world.now c.fail_at.new.world (open_of c.fail_at.new.opened) c.fail_at.result)
    c.get.ensures c.fail_at.ensures.acted
