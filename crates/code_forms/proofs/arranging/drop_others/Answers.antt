use Rattle.std.proofs.Common.{ap, ◌∙◌}
use Rattle.page_code.specs.Shapes.{up}
use Rattle.code_forms.proofs.ArrangingLemmas.{dropped_from}
use Rattle.code_forms.proofs.arranging.drop_others.Goals as goal

pub loop-left-preserved : goal.loop-left-preserved
loop-left-preserved c =
    dropped_from c.args.ground.now c.args.place.now c.args.done c.loop-left.left c.loop-left.code c.bring.new.code c.put.new.self _ c.in_ok-before.before
    c.loop-left-test.true (c.in_ok-before.ensures ∙ ap (λ sh. up c.args.done sh) c.in_ok-up.ensures) c.in_ok-bring.ensures c.in_ok-put.ensures.ok c.loop-left.invariant
