use Rattle.std.proofs.Common.{map, refl, ap, subst, ◌∙◌}
use Rattle.site_state.specs.Parts.{parts_of, under_in}
use Rattle.std.specs.Arc.{arc_value}
use Rattle.std.proofs.Common.{Some}
use Rattle.program_store.specs.Store.{kept_in}
use Rattle.site_words.specs.declared.words.Op.TheVariants as op
use Rattle.site_words.specs.Trees.{agrees}
use Rattle.site_state.specs.Conditions.{CanWork}
use Rattle.site_state.specs.Gifts.{value_in}
use Rattle.site_state.proofs.Keeping.{Laws}
use Rattle.site_state.proofs.ValueSteps.{offer_done}
use Rattle.site_state.proofs.held.Held.offer.Goals as goal

pub returns : goal.returns
returns g c =
    let laws : Laws g.P.Compiled.needs g.P.Compiled.made g.P.Compiled.needed = record { keeps = g.met.P.Compiled.keeps; stand = g.met.P.Compiled.stand; agreeing = g.met.P.Compiled.agreeing } in
    let can : CanWork g.P.Compiled.needs g.P.Compiled.made c.args.at.opening.now c.args.at.history.now.items (parts_of c.args.self.now) c.args.at.pass (op.Offer c.args.request c.args.path.now) (Some (arc_value c.in-Some.made)) =
    subst (λ m. CanWork g.P.Compiled.needs g.P.Compiled.made c.args.at.opening.now c.args.at.history.now.items (parts_of c.args.self.now) c.args.at.pass (op.Offer c.args.request c.args.path.now) (value_in m)) c.in-Some.is c.requires.can in
    offer_done g.P.Compiled.needs g.P.Compiled.made g.P.Compiled.needed laws c.args.at.opening.now c.args.at.history.now.items (parts_of c.args.self.now) _ c.args.at.pass c.args.request c.args.weight c.saturating_add-self.result c.args.path.now (arc_value c.in-Some.made)
    c.in-Ok.kept (kept_in c.keep.new.self.shelves.items) c.plain.result (map under_in c.spend.new.runs.items) can refl
    c.spend.ensures
    c.saturating_add-self.ensures c.requires.weight (c.in-Ok.ensures.ok.0 ∙ ap (λ t. agrees (g.P.Compiled.needed (arc_value c.in-Some.made)) t) c.deref.ensures, c.in-Ok.ensures.ok.1) c.plain.ensures.reply c.plain.ensures.told
