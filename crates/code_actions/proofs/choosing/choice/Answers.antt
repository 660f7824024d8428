use Rattle.std.proofs.Common.{◌++◌, ◌∷◌, ◌-◌, [], length, refl, ap, ◌∙◌}
use Rattle.page_code.specs.Shapes.{cell}
use Rattle.page_code.specs.declared.instr.Instr.TheVariants as instr
use Rattle.code_actions.proofs.Choosings.{joined_from, size_less}
use Rattle.code_actions.proofs.choosing.choice.Goals as goal

pub loop-when-preserved : goal.loop-when-preserved
loop-when-preserved c = record {
  joined =
      joined_from c.args.ground.now c.in_ok-after.after c.in-Some.when c.next.new.self.rest.items c.loop-when.when-iterator.rest.items c.args.last _ c.loop-when.code
      (c.loop-when.code ++ c.in-Some.when.code) c.add_branch.new.code c.loop-when.left c.in-Some.ensures.steps.0 c.in_ok-after.ensures c.loop-when.invariant.left refl
      (c.in_ok-add_branch.ensures
      ∙ ap (λ n. (c.loop-when.code ++ c.in-Some.when.code) ++ cell c.in_ok-after.after c.in-Some.when.place (instr.Jump (c.loop-when.left - n - 1)) ∷ []) c.len-left.ensures)
      c.loop-when.invariant.joined;
  left =
      ap (λ n. c.loop-when.left - n - 1) c.len-left.ensures
      ∙ size_less c.in-Some.when c.next.new.self.rest.items c.loop-when.when-iterator.rest.items (length c.args.last) c.loop-when.left c.in-Some.ensures.steps.0 c.loop-when.invariant.left;
}
