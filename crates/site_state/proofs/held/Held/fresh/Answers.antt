use Rattle.std.proofs.Common.{map, refl, ap, ◌∙◌}
use Rattle.site_words.specs.declared.words.Reply.TheVariants.{Made}
use Rattle.site_state.specs.Parts.{parts_of, under_in}
use Rattle.std.proofs.Common.{◌++◌, ◌∷◌, []}
use Rattle.site_state.specs.declared.gift.Gift.TheVariants.{Id}
use Rattle.site_state.specs.declared.session.Source.TheVariants.{Nowhere}
use Rattle.site_state.specs.ReadSessions.{roomy}
use Rattle.site_state.proofs.RequestSteps.{fresh_done}
use Rattle.site_state.proofs.held.Held.fresh.Goals as goal

pub returns : goal.returns
returns g c =
    fresh_done g.P.Compiled.needs g.P.Compiled.made c.args.at.opening.now c.args.at.history.now.items (parts_of c.args.self.now) _ c.args.at.pass c.args.request c.args.weight c.saturating_add-self.result
    (record { reply = Made c.args.self.now.freshes; given = record { reply = Made c.args.self.now.freshes; gift = Id c.in-Ok.id } }) c.in-Ok.id
    c.add.new.self (map under_in c.freshen.new.runs.items) c.requires.can refl
    (c.in-Ok-add.ensures.ok ∙ ap (λ r. roomy (map under_in r) c.args.self.now.sessions ++ record { number = c.args.self.now.freshes; used = c.args.self.now.moment; source = Nowhere } ∷ []) c.deref.ensures.value)
    c.freshen.ensures
    c.saturating_add-self.ensures c.requires.weight refl refl c.in-Ok.ensures
