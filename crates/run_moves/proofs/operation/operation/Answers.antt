use Rattle.std.proofs.Common.{◌∙◌, ap, sym}
use Rattle.page_code.specs.declared.instr.Instr.TheVariants as instr
use Rattle.page_code.specs.declared.op.Op.TheVariants as op
use Rattle.page_code.specs.declared.operands.PropertyMode.TheVariants as mode
use Rattle.run_moves.specs.Opened.{open_of}
use Rattle.run_moves.specs.At.{seat_at}
use Rattle.run_moves.proofs.Behind.{act_plain}
use Rattle.run_moves.proofs.operation.operation.Goals as goal

pub returns-then-is_quick-clause-acted : goal.returns-then-is_quick-clause-acted
returns-then-is_quick-clause-acted g c = record {
  for = λ serving h.
      (c.quick-done.ensures.lands serving).leads c.args.at.now.cell.place c.args.at.now.pc c.land_done.new.world (open_of c.land_done.new.opened) c.land_done.result c.land_done.ensures.acted c.land_done.ensures.short;
}

pub returns-in-Value-clause-acted : goal.returns-in-Value-clause-acted
returns-in-Value-clause-acted g c =
    act_plain (seat_at c.args.at.now) c.args.at.now.cell.place c.args.at.now.pc (open_of c.args.opened.now) (instr.Op c.args.op.now) (instr.Op (op.SetProperty c.in-SetProperty.name (mode.Value c.in-Value.property c.in-Value.place)))
    c.args.world.now c.set_value.new.world (open_of c.set_value.new.opened) c.set_value.result (ap instr.Op (c.in-SetProperty.is ∙ ap (op.SetProperty c.in-SetProperty.name) (sym c.get.ensures ∙ c.in-Value.is)))
    (λ serving. c.set_value.ensures.acted serving)
