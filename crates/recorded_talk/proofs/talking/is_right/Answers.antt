use Rattle.std.proofs.Common.{◌∙◌, ap, subst, sym}
use Rattle.compiled_pages.specs.Pages.{needs_at}
use Rattle.recorded_talk.proofs.Talks.{right_where_same}
use Rattle.recorded_talk.specs.Rerun.{IsRerun}
use Rattle.site_words.specs.declared.words.Opening.{Opening}
use Rattle.recorded_talk.proofs.talking.is_right.Goals as goal

pub returns : goal.returns
returns c =
    let x = c.args.site.opening in
    let talk = c.args.talk in
    let again = c.in_ok-again.again in
    let rerun =
    subst (λ m. IsRerun needs_at x talk.bytes m again) c.into_vec-2.ensures (subst (λ b. IsRerun needs_at x b c.into_vec-2.result.items again) c.into_vec.ensures c.in_ok-again.ensures) in
    right_where_same needs_at x c.args.history.now.items talk again c.is_same_talk.result c.one_talk.ensures.comes c.one_talk.ensures.shows (sym (ap (λ (y : Opening). y.passes) c.opening.ensures) ∙ c.if-passes-ne1.false) rerun
    c.is_same_talk.ensures
