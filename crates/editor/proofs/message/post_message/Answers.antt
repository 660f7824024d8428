use Rattle.std.proofs.Common.{◌≡◌, true, false, sym, ◌∙◌}
use Rattle.std.proofs.lemmas.List.{take_rest}
use Rattle.editor.specs.Message.{is_based, is_publish}
use Rattle.editor.proofs.TargetLemmas.{posted_for}
use Rattle.editor.proofs.message.post_message.Goals as goal

pub returns : goal.returns
unfolding is_publish is_based
returns c =
    let not_bare : is_publish c.args.target.now ≡ false = sym c.eq.ensures ∙ c.if-eq.false in
    let based : is_based c.args.target.now ≡ true = sym c.starts_with.ensures.value ∙ c.if-not-starts_with.false in
    rw (posted_for c.args.target.now not_bare based) (rw (c.whole_number.ensures.value, take_rest c.args.target.now 22) at c.publish_for.ensures)
