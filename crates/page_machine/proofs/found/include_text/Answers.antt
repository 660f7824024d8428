use Rattle.std.proofs.Common.{◌+◌, Ok, Err, refl, subst}
use Rattle.run_world.specs.Part.{Doing}
use Rattle.run_moves.specs.Opened.{open_of}
use Rattle.page_meaning.proofs.Growing.{same}
use Rattle.run_moves.proofs.Behind.{fell_at, well_at}
use Rattle.page_machine.proofs.found.include_text.Goals as goal
use Rattle.page_meaning.specs.Bodies.{put_text}
use Rattle.page_table.specs.Landing.{Running}

pub returns-in-Ok-clause-acted : goal.returns-in-Ok-clause-acted
returns-in-Ok-clause-acted g c =
    let o = open_of c.args.opened.now in
    well_at c.args.at.now.cell.place o (λ u s. Running (c.args.at.now.pc + 1) s o) c.args.world.now c.put.new.self tt o (c.args.at.now.pc + 1) (λ s. refl)
    (subst (λ t. Doing g.W.World.reached g.W.World.replies (λ u. u) (λ place. put_text place t) c.args.world.now c.put.new.self (Ok tt)) c.as_str.ensures c.in-Ok.ensures.does)

pub returns-in-Err-clause-acted : goal.returns-in-Err-clause-acted
returns-in-Err-clause-acted g c =
    let o = open_of c.args.opened.now in
    fell_at c.args.at.now.cell.place o (λ u s. Running (c.args.at.now.pc + 1) s o) c.args.world.now c.put.new.self c.fail.new.world c.in-Err.failed (open_of c.fail.new.opened) c.fail.result (λ u s. same s)
    (subst (λ t. Doing g.W.World.reached g.W.World.replies (λ u. u) (λ place. put_text place t) c.args.world.now c.put.new.self (Err c.in-Err.failed)) c.as_str.ensures c.in-Err.ensures.does)
    c.fail.ensures.acted c.fail.ensures.short
