use Rattle.std.proofs.Common.{◌+◌}
use Rattle.run_moves.specs.Opened.{open_of}
use Rattle.run_moves.proofs.ArmExits.{take_exit}
use Rattle.run_moves.proofs.arms.take.Goals as goal

pub returns-clause-acted : goal.returns-clause-acted
returns-clause-acted g c = take_exit c.args.above (c.args.pc + 1) c.args.world.now (open_of c.args.opened.now) c.bring_up.new.self c.requires.there c.bring_up.ensures
