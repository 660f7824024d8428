use Rattle.run_moves.specs.Opened.{open_of}
use Rattle.run_moves.specs.At.{seat_at}
use Rattle.std.specs.Prelude.{map}
use Rattle.run_moves.proofs.OpExits.{op_landed}
use Rattle.run_moves.proofs.operation.at_one_place.Goals as goal
use Rattle.pg_value.specs.Value.{datum_of}

pub returns-clause-acted : goal.returns-clause-acted
returns-clause-acted g c = record {
  for = λ serving h.
      op_landed serving (seat_at c.args.at.now) c.args.at.now.cell.place c.args.at.now.pc (open_of c.args.opened.now) c.args.op.now c.values_taken-count.result (map datum_of c.top.result.now) c.drop_top.new.self c.requires.filled
      c.values_taken-count.ensures c.top.ensures c.drop_top.ensures c.args.world.now c.operate-made.new.world c.land.new.world c.operate-made.result (open_of c.land.new.opened) c.land.result
      (c.operate-made.ensures.does serving h) c.land.ensures.acted c.land.ensures.short;
}
