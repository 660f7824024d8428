use Rattle.std.proofs.Common.{◌+◌}
use Rattle.run_moves.specs.Opened.{open_of}
use Rattle.run_moves.proofs.Acts.{one_of_grows}
use Rattle.page_meaning.proofs.Growing.{same}
use Rattle.run_moves.proofs.Behind.{fell_at}
use Rattle.run_moves.proofs.arms.ensure.Goals as goal
use Rattle.page_table.specs.Landing.{Running, one_of}

pub returns-in-Err-clause-acted : goal.returns-in-Err-clause-acted
returns-in-Err-clause-acted g c =
    let o = open_of c.args.opened.now in
    fell_at c.args.at.now.cell.place o (λ made s. one_of made (Running (c.args.at.now.pc + 1) s o) (Running (c.args.at.now.pc + 1 + c.args.ensured.now.size) s o)) c.args.world.now c.make_bean.new.world c.fail.new.world c.in-Err.failed
    (open_of c.fail.new.opened) c.fail.result (λ made s. one_of_grows made s (Running (c.args.at.now.pc + 1) s o) (Running (c.args.at.now.pc + 1 + c.args.ensured.now.size) s o) (same s) (same s)) c.in-Err.ensures.does c.fail.ensures.acted
    c.fail.ensures.short
