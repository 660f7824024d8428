use Rattle.std.proofs.Common.{◌+◌, ap, arith, ◌∙◌}
use Rattle.code_actions.proofs.Choosings.{size_from}
use Rattle.code_actions.proofs.choosing.size.Goals as goal

pub loop-when-preserved : goal.loop-when-preserved
loop-when-preserved c =
    size_from c.args.whens.now c.loop-when.when-index c.when-item.result c.loop-when.size c.in_ok-size.size _ (omega arith) c.when-item.is
    (c.in_ok-size.ensures ∙ ap (λ n. c.loop-when.size + n + 1) c.len.ensures) c.loop-when.invariant
