use Rattle.std.proofs.Common.{◌≡◌, ◌+◌, suc, Ok, Err, subst, arith}
use Rattle.run_world.specs.Part.{Doing}
use Rattle.run_moves.specs.Opened.{open_of}
use Rattle.run_world.specs.Seats.{call_of}
use Rattle.page_machine.proofs.GivenCalls.{copy_failed, source_deep, source_failed, source_put}
use Rattle.page_machine.proofs.calls.write_source.Goals as goal
use Rattle.page_meaning.specs.Bodies.{put_text}

pub returns-in_default-clause-acted : goal.returns-in_default-clause-acted
returns-in_default-clause-acted g c = λ name seat caller is gives.
    let none : c.args.opened.now.left ≡ 0 = omega (arith, c.in_default.ensures) in
    source_deep c.args.at.now.cell.place (c.args.at.now.pc + 1) (open_of c.args.opened.now) name seat (call_of c.args.call.now) caller is c.args.text.now c.args.world.now c.throw.new.world (open_of c.throw.new.opened) c.throw.result gives none
    c.throw.ensures.acted

pub returns-in-Err-clause-acted : goal.returns-in-Err-clause-acted
returns-in-Err-clause-acted g c = λ name seat caller is gives.
    copy_failed c.args.at.now.cell.place (c.args.at.now.pc + 1) (open_of c.args.opened.now) name seat (call_of c.args.call.now) caller is c.args.world.now c.copy_out.new.world c.fail.new.world c.in-Err.failed (open_of c.fail.new.opened)
    c.fail.result c.in-Err.ensures.does c.fail.ensures.acted c.fail.ensures.short

pub returns-in-Ok-clause-acted : goal.returns-in-Ok-clause-acted
returns-in-Ok-clause-acted g c = λ name seat caller is gives.
    let level : c.args.opened.now.left ≡ suc c.in-Some._left = omega (arith, c.in-Some.ensures) in
    source_put c.args.at.now.cell.place (c.args.at.now.pc + 1) (open_of c.args.opened.now) name seat (call_of c.args.call.now) caller is c.args.text.now c.in-Some._left c.args.world.now c.copy_out.new.world c.put.new.self gives level
    c.in_default-copy_out.ensures.does
    (subst (λ t. Doing g.W.World.reached g.W.World.replies (λ u. u) (λ place. put_text place t) c.copy_out.new.world c.put.new.self (Ok tt)) c.as_str.ensures c.in-Ok.ensures.does)

pub returns-in-Err-put-clause-acted : goal.returns-in-Err-put-clause-acted
returns-in-Err-put-clause-acted g c = λ name seat caller is gives.
    let level : c.args.opened.now.left ≡ suc c.in-Some._left = omega (arith, c.in-Some.ensures) in
    source_failed c.args.at.now.cell.place (c.args.at.now.pc + 1) (open_of c.args.opened.now) name seat (call_of c.args.call.now) caller is c.args.text.now c.in-Some._left c.args.world.now c.copy_out.new.world c.put.new.self
    c.fail-in-Err-put.new.world c.in-Err-put.failed (open_of c.fail-in-Err-put.new.opened) c.fail-in-Err-put.result gives level c.in_default-copy_out.ensures.does
    (subst (λ t. Doing g.W.World.reached g.W.World.replies (λ u. u) (λ place. put_text place t) c.copy_out.new.world c.put.new.self (Err c.in-Err-put.failed)) c.as_str.ensures c.in-Err-put.ensures.does)
    c.fail-in-Err-put.ensures.acted c.fail-in-Err-put.ensures.short
