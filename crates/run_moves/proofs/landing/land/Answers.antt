use Rattle.run_moves.specs.Opened.{open_of}
use Rattle.run_moves.proofs.Landings.{land_failed, land_none, land_short, land_some}
use Rattle.run_moves.proofs.landing.land.Goals as goal

pub returns-in-Err-clause-acted : goal.returns-in-Err-clause-acted
returns-in-Err-clause-acted g c =
    land_failed c.args.at.now.pc c.args.at.now.cell.place (open_of c.args.opened.now) c.args.world.now c.fail.new.world c.args.made c.in-Err.failed (open_of c.fail.new.opened) c.fail.result c.in-Err.is c.fail.ensures.acted

pub returns-in_default-clause-acted : goal.returns-in_default-clause-acted
returns-in_default-clause-acted g c =
    land_none c.args.at.now.pc c.args.at.now.cell.place (open_of c.args.opened.now) c.args.world.now c.args.made c.in-Ok.made c.in-Ok.is c.in_default.is

pub returns-in-Ok-push-clause-acted : goal.returns-in-Ok-push-clause-acted
returns-in-Ok-push-clause-acted g c =
    land_some c.args.at.now.pc c.args.at.now.cell.place (open_of c.args.opened.now) c.args.world.now c.args.made c.in-Ok.made c.in-Some.value c.push.new.self c.in-Ok.is c.in-Some.is c.in-Ok-push.ensures.ok

pub returns-in-Err-push-clause-acted : goal.returns-in-Err-push-clause-acted
returns-in-Err-push-clause-acted g c =
    land_short c.args.at.now.pc c.args.at.now.cell.place (open_of c.args.opened.now) c.args.world.now c.args.made c.in-Ok.made (open_of (record c.args.opened.now { stack = c.push.new.self })) c.in-Ok.is
