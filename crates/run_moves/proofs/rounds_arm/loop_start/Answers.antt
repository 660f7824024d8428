use Rattle.std.proofs.Common.{◌≡◌, ◌∙◌, ◌∷◌, ◌+◌, ap, length, subst, sym}
use Rattle.std.specs.Prelude.{drop}
use Rattle.run_moves.specs.Acted.{Acted}
use Rattle.run_moves.specs.Landing.{failing}
use Rattle.run_moves.specs.Loops.{loop_of}
use Rattle.run_moves.specs.Opened.{open_of}
use Rattle.run_moves.specs.declared.flow.Flow.TheVariants as flows
use Rattle.run_moves.proofs.RoundArms.{Starts, start_failed, start_short, start_well}
use Rattle.run_moves.proofs.rounds_arm.loop_start.Goals as goal
use Rattle.page_table.specs.Act.{with_stack}

pub returns-in-Err-clause-acted : goal.returns-in-Err-clause-acted
returns-in-Err-clause-acted g c =
    let o = open_of c.args.opened.now in
    let left : c.drop_top.new.self ≡ drop (length c.args.kind.now.names) o.stack = c.drop_top.ensures ∙ ap (λ n. drop n o.stack) c.len-count.ensures in
    start_failed c.args.at.now.cell.place c.args.kind.now c.args.at.now.pc o c.requires.filled loop_of c.args.world.now c.fail.new.world c.in-Err.failed (open_of c.fail.new.opened) c.fail.result c.in-Err.ensures
    (subst (λ xs. Acted g.W.World.reached g.W.World.replies (failing c.args.at.now.cell.place (with_stack xs o) c.in-Err.failed) c.args.world.now c.fail.new.world (open_of c.fail.new.opened) c.fail.result) left c.fail.ensures.acted)
    c.fail.ensures.short

pub returns-in-Ok-push-clause-acted : goal.returns-in-Ok-push-clause-acted
returns-in-Ok-push-clause-acted g c =
    let o = open_of c.args.opened.now in
    let left : c.drop_top.new.self ≡ drop (length c.args.kind.now.names) o.stack = c.drop_top.ensures ∙ ap (λ n. drop n o.stack) c.len-count.ensures in
    subst (λ ls. Acted g.W.World.reached g.W.World.replies (Starts c.args.at.now.cell.place c.args.kind.now c.args.at.now.pc o) c.args.world.now c.args.world.now (record o { stack = c.drop_top.new.self; loops = ls }) (flows.Go (c.args.at.now.pc + 1)))
    (sym c.in-Ok-push.ensures.ok)
    (subst
    (λ xs. Acted g.W.World.reached g.W.World.replies (Starts c.args.at.now.cell.place c.args.kind.now c.args.at.now.pc o) c.args.world.now c.args.world.now (record o { stack = xs; loops = loop_of c.in-Ok.looping ∷ o.loops }) (flows.Go (c.args.at.now.pc + 1)))
    (sym left) (start_well c.args.at.now.cell.place c.args.kind.now c.args.at.now.pc o c.requires.filled loop_of c.args.world.now c.in-Ok.looping c.in-Ok.ensures))

pub returns-in-Err-push-clause-acted : goal.returns-in-Err-push-clause-acted
returns-in-Err-push-clause-acted g c =
    let o = open_of c.args.opened.now in
    start_short c.args.at.now.cell.place c.args.kind.now c.args.at.now.pc o c.requires.filled loop_of c.args.world.now c.in-Ok.looping (record o { stack = c.drop_top.new.self; loops = c.push.new.self }) c.in-Ok.ensures
