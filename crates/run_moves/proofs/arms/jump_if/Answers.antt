use Rattle.std.proofs.Common.{◌+◌, sym, ◌∙◌}
use Rattle.run_moves.specs.Opened.{open_of}
use Rattle.run_moves.proofs.ArmExits.{jump_exit, stay_exit}
use Rattle.run_moves.proofs.arms.jump_if.Goals as goal
use Rattle.pg_value.specs.Value.{datum_of}

pub returns-then-is_same-clause-acted : goal.returns-then-is_same-clause-acted
returns-then-is_same-clause-acted g c =
    jump_exit c.args.holds (c.args.pc + 1 + c.args.size) (c.args.pc + 1) c.args.world.now (open_of c.args.opened.now) (datum_of c.in-Some.value) c.pop.new.self c.in-Some.ensures
    (sym c.is_same.ensures ∙ c.if-is_same.true)

pub returns-clause-acted : goal.returns-clause-acted
returns-clause-acted g c =
    stay_exit c.args.holds (c.args.pc + 1 + c.args.size) (c.args.pc + 1) c.args.world.now (open_of c.args.opened.now) (datum_of c.in-Some.value) c.pop.new.self c.in-Some.ensures
    (sym c.is_same.ensures ∙ c.if-is_same.false)
