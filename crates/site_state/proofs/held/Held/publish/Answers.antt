use Rattle.std.proofs.Common.{◌≡◌, ◌+◌, ℕ, map, Some, None, refl, ap, subst}
use Rattle.source_tree.specs.Changed.{changed}
use Rattle.source_tree.specs.Edits.{after_edits}
use Rattle.program_store.specs.Store.{kept_in}
use Rattle.site_words.specs.declared.words.Op.TheVariants as op
use Rattle.site_words.specs.declared.words.Reply.TheVariants as reply
use Rattle.site_words.specs.Runs.{promised}
use Rattle.site_words.specs.Step.{full_of}
use Rattle.site_words.specs.Weights.{weight_held, weight_with}
use Rattle.site_state.specs.Parts.{parts_of, under_in}
use Rattle.site_state.proofs.JournalSteps.{made_tree, publish_done, publish_room}
use Rattle.site_state.proofs.Keeping.{Laws}
use Rattle.site_state.proofs.held.Held.publish.Goals as goal

pub returns-in-Err : goal.returns-in-Err
returns-in-Err g c =
    let laws : Laws g.P.Compiled.needs g.P.Compiled.made g.P.Compiled.needed = record { keeps = g.met.P.Compiled.keeps; stand = g.met.P.Compiled.stand; agreeing = g.met.P.Compiled.agreeing } in (
      publish_room g.P.Compiled.needs g.P.Compiled.made g.P.Compiled.needed laws c.args.at.opening.now c.args.at.history.now.items (parts_of c.args.self.now) c.args.at.pass c.args.base c.args.edits.now
          c.in-Ok.dirty c.in-Ok-edited.tree.value c.publishing_weight-claim.result (Some c.in-Err.refusal) c.requires.kept c.in_default.ensures c.in-Ok.ensures c.in-Ok-edited.ensures c.publishing_weight-claim.ensures
          (subst (λ r. (n : ℕ) → c.publishing_weight-claim.result ≡ weight_held n → Some c.in-Err.refusal ≡ full_of c.args.at.opening.now.limit c.args.self.now.weight (promised (map under_in r)) n)
          c.deref.ensures.value c.in-Err.ensures.full),
      refl,
    )

pub returns : goal.returns
returns g c =
    let laws : Laws g.P.Compiled.needs g.P.Compiled.made g.P.Compiled.needed = record { keeps = g.met.P.Compiled.keeps; stand = g.met.P.Compiled.stand; agreeing = g.met.P.Compiled.agreeing } in
    publish_done g.P.Compiled.needs g.P.Compiled.made g.P.Compiled.needed laws c.args.at.opening.now c.args.at.history.now.items (parts_of c.args.self.now) _ c.args.at.pass c.in-Ok-room.weight c.saturating_add-self.result (c.args.self.now.version + 1)
    c.args.base c.args.edits.now c.in-Ok.dirty c.in-Ok-edited.tree.value (kept_in c.clear.new.self.shelves.items) _ c.requires
    (publish_room g.P.Compiled.needs g.P.Compiled.made g.P.Compiled.needed laws c.args.at.opening.now c.args.at.history.now.items (parts_of c.args.self.now) c.args.at.pass c.args.base c.args.edits.now
    c.in-Ok.dirty c.in-Ok-edited.tree.value c.publishing_weight-claim.result None c.requires.kept c.in_default.ensures c.in-Ok.ensures c.in-Ok-edited.ensures c.publishing_weight-claim.ensures
    (subst (λ r. (n : ℕ) → c.publishing_weight-claim.result ≡ weight_held n → None ≡ full_of c.args.at.opening.now.limit c.args.self.now.weight (promised (map under_in r)) n)
    c.deref.ensures.value (λ n is. (c.in-Ok-room.ensures.fits n is).1)))
    refl refl
    (made_tree (after_edits c.args.edits.now (c.args.self.now.version + 1) c.args.self.now.tree.value) c.in-Ok-edited.tree.value c.in-Ok-edited.ensures)
    (c.clear.ensures.clean (changed c.args.edits.now c.args.self.now.tree.value) c.in-Ok.ensures)
    c.in-Ok.ensures c.saturating_add-self.ensures
    (c.in-Ok-room.ensures.fits (weight_with (op.Publish c.args.base c.args.edits.now) (reply.Published (c.args.self.now.version + 1) c.in-Ok.dirty)) c.publishing_weight-claim.ensures).0
    refl (ap (λ d. reply.Published (c.args.self.now.version + 1) d) c.in-Ok-copy.ensures)
