use Rattle.std.proofs.Common.{◌≡◌, map, Some, None, refl, sym, ap, subst, ◌∙◌}
use Rattle.site_words.specs.declared.words.Op.TheVariants as op
use Rattle.site_words.specs.Runs.{promised}
use Rattle.site_words.specs.Step.{full_of}
use Rattle.site_words.specs.Weights.{op_weight}
use Rattle.site_state.specs.Parts.{parts_of, under_in}
use Rattle.site_state.specs.ReadSessions.{held_by, shown_one}
use Rattle.site_state.proofs.JournalSteps.{snapshot_done}
use Rattle.site_state.proofs.Steps.{snapshot_claim}
use Rattle.site_state.proofs.held.Held.snapshot.Goals as goal

pub returns-in-Err : goal.returns-in-Err
returns-in-Err g c = (
  sym (subst (λ r. Some c.in-Err.refusal ≡ full_of c.args.at.opening.now.limit c.args.self.now.weight (promised (map under_in r)) (op_weight (op.Snapshot c.args.cookie.now))) c.deref.ensures.value
      (c.in-Err.ensures.full (op_weight (op.Snapshot c.args.cookie.now)) (snapshot_claim c.args.weight c.args.cookie.now c.requires.can.asks c.requires.weight))),
  refl,
)

pub returns : goal.returns
returns g c =
    snapshot_done g.P.Compiled.needs g.P.Compiled.made c.args.at.opening.now c.args.at.history.now.items (parts_of c.args.self.now) _ c.args.at.pass c.args.weight c.saturating_add-self.result c.args.cookie.now c.shown-session.result c.in-Ok.done
    c.requires.can
    (sym (subst (λ r. None ≡ full_of c.args.at.opening.now.limit c.args.self.now.weight (promised (map under_in r)) (op_weight (op.Snapshot c.args.cookie.now))) c.deref.ensures.value (c.in_default.ensures.fits (op_weight (op.Snapshot c.args.cookie.now)) (snapshot_claim c.args.weight c.args.cookie.now c.requires.can.asks c.requires.weight)).1))
    refl
    (c.shown-session.ensures
    ∙ (ap (λ r. shown_one (held_by c.session_at-found.result (map under_in r)) c.args.at.opening.now.idle c.args.self.now.moment c.session_at-found.result) c.deref-2.ensures.value
    ∙ ap (λ f. shown_one (held_by f (map under_in c.args.self.now.runs.items)) c.args.at.opening.now.idle c.args.self.now.moment f) c.session_at-found.ensures))
    c.saturating_add-self.ensures c.requires.weight c.in-Ok.ensures
