use Rattle.std.proofs.Common.{arith, map}
use Rattle.std.proofs.lemmas.List.{length-map}
use Rattle.code_forms.proofs.ArrangingLemmas.{arranged_from}
use Rattle.code_forms.proofs.arranging.arranged.Goals as goal

pub loop-done-preserved : goal.loop-done-preserved
loop-done-preserved c =
    arranged_from c.args.ground.now c.args.place.now (map (λ name. name.now) c.args.wanted.now) c.loop-done.done c.text_at-name.result.now c.loop-done.left.items c.put_wanted.new.names.items
    c.loop-done.code c.put_wanted.new.code _ (grind (arith, length-map)) c.text_at-name.ensures c.in_ok-put_wanted.ensures.code c.in_ok-put_wanted.ensures.left c.loop-done.invariant
