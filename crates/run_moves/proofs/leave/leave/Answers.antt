use Rattle.std.proofs.Common.{refl}
use Rattle.page_code.specs.declared.call.Leave.TheVariants as leave
use Rattle.run_moves.specs.Opened.{open_of}
use Rattle.run_moves.specs.At.{seat_at}
use Rattle.run_moves.specs.declared.flow.End.TheVariants as ends
use Rattle.run_moves.specs.declared.flow.Flow.TheVariants as flows
use Rattle.run_moves.proofs.Behind.{acted_normal}
use Rattle.run_moves.proofs.LeaveExits.{leave_as}
use Rattle.run_moves.proofs.leave.leave.Goals as goal
use Rattle.page_table.specs.Act.{leaving}

pub returns-in-End-clause-acted : goal.returns-in-End-clause-acted
returns-in-End-clause-acted g c =
    let o = open_of c.args.opened.now in
    leave_as (seat_at c.args.at.now) c.args.at.now.cell.place o c.args.how.now leave.End c.args.world.now c.args.world.now o (flows.Over ends.Normal) c.in-End.is
    (λ serving h. acted_normal (λ s. leaving serving (seat_at c.args.at.now) c.args.at.now.cell.place leave.End s o) c.args.world.now o (λ s. refl))

pub returns-in-Redirect-clause-acted : goal.returns-in-Redirect-clause-acted
returns-in-Redirect-clause-acted g c =
    leave_as (seat_at c.args.at.now) c.args.at.now.cell.place (open_of c.args.opened.now) c.args.how.now leave.Redirect c.args.world.now c.redirect_away.new.world (open_of c.redirect_away.new.opened) c.redirect_away.result c.in-Redirect.is
    (λ serving h. c.redirect_away.ensures.acted serving (seat_at c.args.at.now))

pub returns-in-Forward-clause-acted : goal.returns-in-Forward-clause-acted
returns-in-Forward-clause-acted g c =
    leave_as (seat_at c.args.at.now) c.args.at.now.cell.place (open_of c.args.opened.now) c.args.how.now (leave.Forward c.in-Forward.params) c.args.world.now c.forward_away.new.world (open_of c.forward_away.new.opened)
    c.forward_away.result c.in-Forward.is (λ serving h. c.forward_away.ensures.acted serving h)
