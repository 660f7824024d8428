use Rattle.std.proofs.Common.{◌≡◌, map, refl, ap, ◌∙◌}
use Rattle.site_state.specs.Parts.{parts_of, under_in}
use Rattle.site_words.specs.declared.words.AppReply.{AppReply}
use Rattle.site_words.specs.declared.words.Op.TheVariants as op
use Rattle.site_words.specs.declared.words.Reply.{Reply}
use Rattle.site_words.specs.declared.words.Reply.TheVariants as reply
use Rattle.site_words.specs.Weights.{capped, weight_with}
use Rattle.site_state.proofs.Steps.{app_done}
use Rattle.site_state.proofs.held.Held.app.Goals as goal

pub returns : goal.returns
returns g c =
    let told : reply.App c.in-Ok.answer ≡ reply.App _ = ap (λ (a : AppReply). reply.App a) c.in-Ok.ensures in
    app_done g.P.Compiled.needs g.P.Compiled.made c.args.at.opening.now c.args.at.history.now.items (parts_of c.args.self.now) _ c.args.at.pass c.args.request c.with_reply-weight.result c.saturating_add-self.result c.args.step.now c.plain.result
    c.change.new.app (map under_in c.spend.new.runs.items) refl c.in-Ok-change.ensures.ok
    c.spend.ensures
    c.saturating_add-self.ensures
    (c.with_reply-weight.ensures (op.App c.args.request c.args.step.now) c.requires.weight ∙ ap (λ (r : Reply). capped (weight_with (op.App c.args.request c.args.step.now) r)) told)
    (c.requires.can.room refl) (c.plain.ensures.reply ∙ told) (c.plain.ensures.told ∙ (c.in-Ok-copy_reply.ensures.copy ∙ told))
