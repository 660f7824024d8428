use Rattle.std.proofs.Common.{◌+◌}
use Rattle.run_moves.specs.Opened.{open_of}
use Rattle.run_moves.proofs.ArmExits.{null_exit, value_exit}
use Rattle.run_moves.proofs.arms.jump_null.Goals as goal

pub returns-then-has_null-clause-acted : goal.returns-then-has_null-clause-acted
returns-then-has_null-clause-acted g c =
    null_exit (c.args.pc + 1 + c.args.size) (c.args.pc + 1) c.args.world.now (open_of c.args.opened.now) c.drop_top.new.self c.has_null.result c.requires.filled c.has_null.ensures c.if-has_null.true c.drop_top.ensures

pub returns-else-has_null-clause-acted : goal.returns-else-has_null-clause-acted
returns-else-has_null-clause-acted g c =
    value_exit (c.args.pc + 1 + c.args.size) (c.args.pc + 1) c.args.world.now (open_of c.args.opened.now) c.has_null.result c.requires.filled c.has_null.ensures c.if-has_null.false
