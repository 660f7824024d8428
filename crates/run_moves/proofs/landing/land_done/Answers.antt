use Rattle.std.proofs.Common.{None, ap, refl}
use Rattle.run_moves.specs.Opened.{open_of}
use Rattle.run_moves.proofs.Landings.{land_failed, land_none}
use Rattle.run_moves.proofs.landing.land_done.Goals as goal
use Rattle.run_parts.specs.Answers.{none_of}

pub returns-in-Ok-clause-acted : goal.returns-in-Ok-clause-acted
returns-in-Ok-clause-acted g c = land_none c.args.at.now.pc c.args.at.now.cell.place (open_of c.args.opened.now) c.args.world.now (none_of c.args.done) None (ap none_of c.in-Ok.is) refl

pub returns-in-Err-clause-acted : goal.returns-in-Err-clause-acted
returns-in-Err-clause-acted g c =
    land_failed c.args.at.now.pc c.args.at.now.cell.place (open_of c.args.opened.now) c.args.world.now c.fail.new.world (none_of c.args.done) c.in-Err.failed (open_of c.fail.new.opened) c.fail.result (ap none_of c.in-Err.is) c.fail.ensures.acted
