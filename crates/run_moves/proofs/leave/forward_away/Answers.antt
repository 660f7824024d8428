use Rattle.std.proofs.Common.{ap}
use Rattle.std.specs.Prelude.{map}
use Rattle.run_moves.specs.Opened.{open_of}
use Rattle.run_moves.specs.At.{seat_at}
use Rattle.run_moves.proofs.LeaveExits.{forward_failed, forwarded}
use Rattle.run_moves.proofs.leave.forward_away.Goals as goal
use Rattle.page_table.specs.Act.{with_stack}
use Rattle.pg_value.specs.Value.{datum_of}

pub returns-in-Ok-clause-acted : goal.returns-in-Ok-clause-acted
returns-in-Ok-clause-acted g c = λ serving h.
    let o = open_of c.args.opened.now in
    forwarded serving (seat_at c.args.at.now) c.args.at.now.cell.place o (with_stack c.drop_top.new.self o) (map datum_of c.top.result.now) c.args.params c.requires.filled (ap (λ xs. with_stack xs o) c.drop_top.ensures)
    c.top.ensures c.args.world.now c.ask_forward-asked.new.world c.clear.new.self c.in-Ok.goal (c.in-Ok.ensures.does serving h) c.clear.ensures.cleared c.clear.ensures.replies

pub returns-in-Err-clause-acted : goal.returns-in-Err-clause-acted
returns-in-Err-clause-acted g c = λ serving h.
    let o = open_of c.args.opened.now in
    forward_failed serving (seat_at c.args.at.now) c.args.at.now.cell.place o (with_stack c.drop_top.new.self o) (map datum_of c.top.result.now) c.args.params c.requires.filled (ap (λ xs. with_stack xs o) c.drop_top.ensures)
    c.top.ensures c.args.world.now c.ask_forward-asked.new.world c.fail.new.world c.in-Err.failed (open_of c.fail.new.opened) c.fail.result (c.in-Err.ensures.does serving h) c.fail.ensures.acted c.fail.ensures.short
