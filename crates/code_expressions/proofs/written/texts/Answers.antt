use Rattle.std.proofs.Common.{◌++◌, arith, ap, ◌∙◌}
use Rattle.code_expressions.proofs.PartLemmas.{texts_end, texts_from}
use Rattle.code_expressions.proofs.written.texts.Goals as goal

pub loop-part-preserved : goal.loop-part-preserved
loop-part-preserved c =
    texts_from c.loop-part.above c.args.place.now _ c.args.parts.now c.loop-part.part-index c.part-item.result c.loop-part.code c.join.new.self c.in_ok-above-2.above (omega arith) c.part-item.is
    (c.in_ok-join.ensures.ok ∙ ap (λ cells. c.loop-part.code ++ cells) c.in_ok-text.ensures) c.in_ok-above-2.ensures c.loop-part.invariant

pub returns : goal.returns
returns c = texts_end c.loop-part.above c.args.place.now _ c.args.parts.now c.loop-part.part-index c.loop-part.code (omega arith) c.loop-part.invariant
