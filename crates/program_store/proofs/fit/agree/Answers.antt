use Rattle.std.proofs.Common.{◌≡◌, ◌+◌, ◌∙◌, ap, drop, sym}
use Rattle.std.specs.Prelude.{◌&&◌}
use Rattle.site_words.specs.Trees.{agrees}
use Rattle.program_store.proofs.KeptLemmas.{agrees_more}
use Rattle.program_store.proofs.fit.agree.Goals as goal

pub loop-need-preserved : goal.loop-need-preserved
loop-need-preserved c =
    let needs = c.args.needs.now in
    let tree = c.args.tree.now in
    let sofar : agrees (drop c.loop-need.need-index needs) tree ≡ agrees needs tree = c.loop-need.invariant in
    sym (agrees_more needs c.loop-need.need-index c.need-item.result tree c.loop-need-test.true c.need-item.is
    ∙ ap (λ b. b && agrees (drop (c.loop-need.need-index + 1) needs) tree) (sym c.stands.ensures ∙ c.if-not-stands.false)) ∙ sofar
