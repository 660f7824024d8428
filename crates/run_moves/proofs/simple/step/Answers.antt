use Rattle.std.proofs.Common.{◌+◌, ◌≤◌, length, refl, subst, sym, arith}
use Rattle.std.proofs.lemmas.List.{length-map}
use Rattle.page_code.specs.declared.instr.Instr.TheVariants as instr
use Rattle.run_moves.specs.Acted.{Acted}
use Rattle.run_moves.specs.Opened.{catch_of, open_of}
use Rattle.run_moves.specs.At.{seat_at}
use Rattle.run_moves.proofs.Acts.{acted_on}
use Rattle.run_moves.proofs.Behind.{act_for, act_plain}
use Rattle.run_moves.proofs.simple.step.Goals as goal
use Rattle.page_table.specs.Act.{act}
use Rattle.page_table.specs.Finds.{Finds}
use Rattle.page_table.specs.Seat.{code_of}

pub returns-in-Op-clause-acted : goal.returns-in-Op-clause-acted
returns-in-Op-clause-acted g c =
    act_for (seat_at c.args.at.now) c.args.at.now.cell.place c.args.at.now.pc (open_of c.args.opened.now) c.args.at.now.cell.instr.now (instr.Op c.in-Op.op) c.args.world.now c.operation.new.world (open_of c.operation.new.opened) c.operation.result c.in-Op.is c.operation.ensures.acted

pub operation-requires : goal.operation-requires
operation-requires g c =
    let finds = subst (Finds (length (code_of (seat_at c.args.at.now))) c.args.at.now.pc (g.W.World.kept c.args.world.now) (open_of c.args.opened.now)) c.in-Op.is c.requires.finds in
    record { covered = c.requires.covered; records = c.requires.records; within = omega (arith, finds.1, c.requires.within); filled = finds.0 }

pub returns-in-Take-clause-acted : goal.returns-in-Take-clause-acted
returns-in-Take-clause-acted g c =
    act_plain (seat_at c.args.at.now) c.args.at.now.cell.place c.args.at.now.pc (open_of c.args.opened.now) c.args.at.now.cell.instr.now (instr.Take c.in-Take.above) c.args.world.now c.take.new.world (open_of c.take.new.opened) c.take.result c.in-Take.is
    (λ serving. c.take.ensures.acted)

pub take-requires : goal.take-requires
take-requires g c =
    let finds = subst (Finds (length (code_of (seat_at c.args.at.now))) c.args.at.now.pc (g.W.World.kept c.args.world.now) (open_of c.args.opened.now)) c.in-Take.is c.requires.finds in
    record { covered = c.requires.covered; within = omega (arith, finds.1, c.requires.within); there = finds.0 }

pub returns-in-StartBody-clause-acted : goal.returns-in-StartBody-clause-acted
returns-in-StartBody-clause-acted g c =
    act_plain (seat_at c.args.at.now) c.args.at.now.cell.place c.args.at.now.pc (open_of c.args.opened.now) c.args.at.now.cell.instr.now (instr.StartBody) c.args.world.now c.start_body.new.world (open_of c.start_body.new.opened) c.start_body.result c.in-StartBody.is
    (λ serving. c.start_body.ensures.acted)

pub start_body-requires : goal.start_body-requires
start_body-requires g c =
    let finds = subst (Finds (length (code_of (seat_at c.args.at.now))) c.args.at.now.pc (g.W.World.kept c.args.world.now) (open_of c.args.opened.now)) c.in-StartBody.is c.requires.finds in
    record { covered = c.requires.covered; within = omega (arith, finds, c.requires.within) }

pub returns-in-TakeBody-clause-acted : goal.returns-in-TakeBody-clause-acted
returns-in-TakeBody-clause-acted g c =
    act_plain (seat_at c.args.at.now) c.args.at.now.cell.place c.args.at.now.pc (open_of c.args.opened.now) c.args.at.now.cell.instr.now (instr.TakeBody) c.args.world.now c.take_body.new.world (open_of c.take_body.new.opened) c.take_body.result c.in-TakeBody.is
    (λ serving. c.take_body.ensures.acted)

pub take_body-requires : goal.take_body-requires
take_body-requires g c =
    let finds = subst (Finds (length (code_of (seat_at c.args.at.now))) c.args.at.now.pc (g.W.World.kept c.args.world.now) (open_of c.args.opened.now)) c.in-TakeBody.is c.requires.finds in
    record { covered = c.requires.covered; within = omega (arith, finds.1, c.requires.within); some = omega (arith, finds.0) }

pub returns-in-JumpIf-clause-acted : goal.returns-in-JumpIf-clause-acted
returns-in-JumpIf-clause-acted g c =
    act_plain (seat_at c.args.at.now) c.args.at.now.cell.place c.args.at.now.pc (open_of c.args.opened.now) c.args.at.now.cell.instr.now (instr.JumpIf c.in-JumpIf.holds c.in-JumpIf.size) c.args.world.now c.jump_if.new.world (open_of c.jump_if.new.opened) c.jump_if.result c.in-JumpIf.is
    (λ serving. c.jump_if.ensures.acted)

pub jump_if-requires : goal.jump_if-requires
jump_if-requires g c =
    let finds = subst (Finds (length (code_of (seat_at c.args.at.now))) c.args.at.now.pc (g.W.World.kept c.args.world.now) (open_of c.args.opened.now)) c.in-JumpIf.is c.requires.finds in
    record { covered = c.requires.covered; within = omega (arith, finds.2, c.requires.within); filled = omega (arith, finds.0) }

pub returns-in-JumpNull-clause-acted : goal.returns-in-JumpNull-clause-acted
returns-in-JumpNull-clause-acted g c =
    act_plain (seat_at c.args.at.now) c.args.at.now.cell.place c.args.at.now.pc (open_of c.args.opened.now) c.args.at.now.cell.instr.now (instr.JumpNull c.in-JumpNull.size) c.args.world.now c.jump_null.new.world (open_of c.jump_null.new.opened) c.jump_null.result c.in-JumpNull.is
    (λ serving. c.jump_null.ensures.acted)

pub jump_null-requires : goal.jump_null-requires
jump_null-requires g c =
    let finds = subst (Finds (length (code_of (seat_at c.args.at.now))) c.args.at.now.pc (g.W.World.kept c.args.world.now) (open_of c.args.opened.now)) c.in-JumpNull.is c.requires.finds in
    record { covered = c.requires.covered; within = omega (arith, finds.2, c.requires.within); filled = omega (arith, finds.0) }

pub returns-in-Ensure-clause-acted : goal.returns-in-Ensure-clause-acted
returns-in-Ensure-clause-acted g c =
    act_plain (seat_at c.args.at.now) c.args.at.now.cell.place c.args.at.now.pc (open_of c.args.opened.now) c.args.at.now.cell.instr.now (instr.Ensure c.in-Ensure.variable c.in-Ensure.bean c.in-Ensure.size) c.args.world.now c.ensure.new.world (open_of c.ensure.new.opened) c.ensure.result c.in-Ensure.is
    (λ serving. subst
    (λ bean. Acted g.W.World.reached g.W.World.replies (λ s. act serving (seat_at c.args.at.now) c.args.at.now.cell.place c.args.at.now.pc s (open_of c.args.opened.now) (instr.Ensure c.in-Ensure.variable bean c.in-Ensure.size)) c.args.world.now c.ensure.new.world (open_of c.ensure.new.opened) c.ensure.result)
    c.get.ensures c.ensure.ensures.acted)

pub ensure-requires : goal.ensure-requires
ensure-requires g c =
    let finds = subst (Finds (length (code_of (seat_at c.args.at.now))) c.args.at.now.pc (g.W.World.kept c.args.world.now) (open_of c.args.opened.now)) c.in-Ensure.is c.requires.finds in
    record { covered = c.requires.covered; within = omega (arith, finds.1, c.requires.within) }

pub returns-in-LoopStart-clause-acted : goal.returns-in-LoopStart-clause-acted
returns-in-LoopStart-clause-acted g c =
    act_plain (seat_at c.args.at.now) c.args.at.now.cell.place c.args.at.now.pc (open_of c.args.opened.now) c.args.at.now.cell.instr.now (instr.LoopStart c.in-LoopStart.kind) c.args.world.now c.loop_start.new.world (open_of c.loop_start.new.opened) c.loop_start.result c.in-LoopStart.is
    (λ serving. subst
    (λ kind. Acted g.W.World.reached g.W.World.replies (λ s. act serving (seat_at c.args.at.now) c.args.at.now.cell.place c.args.at.now.pc s (open_of c.args.opened.now) (instr.LoopStart kind)) c.args.world.now c.loop_start.new.world (open_of c.loop_start.new.opened) c.loop_start.result)
    c.get-in-LoopStart.ensures c.loop_start.ensures.acted)

pub loop_start-requires : goal.loop_start-requires
loop_start-requires g c =
    let finds = subst (Finds (length (code_of (seat_at c.args.at.now))) c.args.at.now.pc (g.W.World.kept c.args.world.now) (open_of c.args.opened.now)) c.in-LoopStart.is c.requires.finds in
    record {
      covered = c.requires.covered;
      within = omega (arith, finds.1, c.requires.within);
      filled = subst (λ kind. length kind.names ≤ length c.args.opened.now.stack) (sym c.get-in-LoopStart.ensures) finds.0;
    }

pub returns-in-LoopNext-clause-acted : goal.returns-in-LoopNext-clause-acted
returns-in-LoopNext-clause-acted g c =
    act_plain (seat_at c.args.at.now) c.args.at.now.cell.place c.args.at.now.pc (open_of c.args.opened.now) c.args.at.now.cell.instr.now (instr.LoopNext c.in-LoopNext.size) c.args.world.now c.loop_next.new.world (open_of c.loop_next.new.opened) c.loop_next.result c.in-LoopNext.is
    (λ serving. c.loop_next.ensures.acted)

pub loop_next-requires : goal.loop_next-requires
loop_next-requires g c =
    let finds = subst (Finds (length (code_of (seat_at c.args.at.now))) c.args.at.now.pc (g.W.World.kept c.args.world.now) (open_of c.args.opened.now)) c.in-LoopNext.is c.requires.finds in
    record { covered = c.requires.covered; within = omega (arith, finds.2, c.requires.within); back = finds.1; opened = finds.0 }

pub returns-in-CatchStart-clause-acted : goal.returns-in-CatchStart-clause-acted
returns-in-CatchStart-clause-acted g c =
    act_plain (seat_at c.args.at.now) c.args.at.now.cell.place c.args.at.now.pc (open_of c.args.opened.now) c.args.at.now.cell.instr.now (instr.CatchStart c.in-CatchStart.size) c.args.world.now c.catch_start.new.world (open_of c.catch_start.new.opened) c.catch_start.result c.in-CatchStart.is
    (λ serving. c.catch_start.ensures.acted)

pub catch_start-requires : goal.catch_start-requires
catch_start-requires g c =
    let finds = subst (Finds (length (code_of (seat_at c.args.at.now))) c.args.at.now.pc (g.W.World.kept c.args.world.now) (open_of c.args.opened.now)) c.in-CatchStart.is c.requires.finds in
    record { covered = c.requires.covered; within = omega (arith, finds.1, c.requires.within) }

pub returns-in-CatchEnd-clause-acted : goal.returns-in-CatchEnd-clause-acted
returns-in-CatchEnd-clause-acted g c =
    act_plain (seat_at c.args.at.now) c.args.at.now.cell.place c.args.at.now.pc (open_of c.args.opened.now) c.args.at.now.cell.instr.now (instr.CatchEnd) c.args.world.now c.catch_end.new.world (open_of c.catch_end.new.opened) c.catch_end.result c.in-CatchEnd.is
    (λ serving. c.catch_end.ensures.acted)

pub catch_end-requires : goal.catch_end-requires
catch_end-requires g c =
    let finds = subst (Finds (length (code_of (seat_at c.args.at.now))) c.args.at.now.pc (g.W.World.kept c.args.world.now) (open_of c.args.opened.now)) c.in-CatchEnd.is c.requires.finds in
    record { covered = c.requires.covered; within = omega (arith, finds.1, c.requires.within); opened = omega (arith, finds.0, length-map c.args.opened.now.catches catch_of) }

pub returns-in-Leave-clause-acted : goal.returns-in-Leave-clause-acted
returns-in-Leave-clause-acted g c =
    act_for (seat_at c.args.at.now) c.args.at.now.cell.place c.args.at.now.pc (open_of c.args.opened.now) c.args.at.now.cell.instr.now (instr.Leave c.in-Leave.how) c.args.world.now c.leave.new.world (open_of c.leave.new.opened) c.leave.result c.in-Leave.is c.leave.ensures.acted

pub leave-requires : goal.leave-requires
leave-requires g c =
    let finds = subst (Finds (length (code_of (seat_at c.args.at.now))) c.args.at.now.pc (g.W.World.kept c.args.world.now) (open_of c.args.opened.now)) c.in-Leave.is c.requires.finds in
    record { covered = c.requires.covered; finds = finds }

pub returns-in-Jump-clause-acted : goal.returns-in-Jump-clause-acted
returns-in-Jump-clause-acted g c =
    act_plain (seat_at c.args.at.now) c.args.at.now.cell.place c.args.at.now.pc (open_of c.args.opened.now) c.args.at.now.cell.instr.now (instr.Jump c.in-Jump.size) c.args.world.now c.args.world.now (open_of c.args.opened.now) _ c.in-Jump.is
    (λ serving. acted_on (λ s. act serving (seat_at c.args.at.now) c.args.at.now.cell.place c.args.at.now.pc s (open_of c.args.opened.now) (instr.Jump c.in-Jump.size)) c.args.world.now (open_of c.args.opened.now)
    (c.args.at.now.pc + 1 + c.in-Jump.size) (λ s. refl))
