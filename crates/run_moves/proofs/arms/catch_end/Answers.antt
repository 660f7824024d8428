use Rattle.std.proofs.Common.{◌+◌, ap}
use Rattle.std.specs.Prelude.{map}
use Rattle.run_moves.specs.Opened.{catch_of, open_of}
use Rattle.run_moves.proofs.ArmExits.{close_exit}
use Rattle.run_moves.proofs.arms.catch_end.Goals as goal

pub returns-clause-acted : goal.returns-clause-acted
returns-clause-acted g c =
    close_exit (c.args.pc + 1) c.args.world.now (open_of c.args.opened.now) (catch_of c.in-Some.field-0) (map catch_of c.pop.new.self) (ap (map catch_of) c.in-Some.ensures)
