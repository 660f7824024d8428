use Rattle.std.proofs.Common.{Err, List, subst, sym, ◌∙◌, ℕ}
use Rattle.run_world.proofs.Adds.{unassign_adds}
use Rattle.run_world.proofs.Exits.{err_as}
use Rattle.run_parts.proofs.Lookups.{unassign_failed, unassign_held}
use Rattle.run_world.proofs.Parts.{short_at}
use Rattle.run_parts.proofs.variables.unassign.Goals as goal
use Rattle.run_world.specs.Part.{Changes, Doing}
use Rattle.page_meaning.specs.State.{in_scopes}
use Rattle.page_meaning.specs.Work.{ask}
use Rattle.scopes.specs.Scopes.{without_variable}
use Rattle.site_words.specs.Law.{told}
use Rattle.site_words.specs.declared.words.AppStep.TheVariants as step

pub returns-in_err-copy-in-None-clause-does : goal.returns-in_err-copy-in-None-clause-does
returns-in_err-copy-in-None-clause-does g c = short_at c.args.world.now c.from_residual.result c.from_residual.ensures.1 (λ place. unassign_adds place c.args.scope c.args.name.now)

pub returns-in_err-ask-in-None-clause-does : goal.returns-in_err-ask-in-None-clause-does
returns-in_err-ask-in-None-clause-does g c =
    let does = subst (λ (name : List ℕ). Doing g.W.World.reached g.W.World.replies told (λ place. ask place (step.Remove name)) c.args.world.now c.ask.new.self (Err c.in_err-ask-in-None.field-0.0))
    (c.in_ok-copy-in-None.ensures ∙ c.as_text-in-None.ensures.text) c.in_err-ask-in-None.ensures.does in
    err_as c.from_residual-in_err-ask-in-None.result c.in_err-ask-in-None.field-0.0 c.from_residual-in_err-ask-in-None.ensures.1
    (unassign_failed c.args.world.now c.ask.new.self c.args.scope c.args.name.now c.in_err-ask-in-None.field-0.0 (sym c.of.ensures ∙ c.in-None.is) does)

pub returns-in-Some-clause-does : goal.returns-in-Some-clause-does
returns-in-Some-clause-does g c =
    unassign_held c.args.world.now c.remove.new.self c.args.scope c.in-Some.held c.args.name.now (sym c.of.ensures ∙ c.in-Some.is)
    (subst (λ (name : List ℕ). Changes g.W.World.reached (λ s. in_scopes (without_variable s.scopes c.in-Some.held name) s) c.args.world.now c.remove.new.self) (c.as_str.ensures ∙ c.as_text.ensures.text) c.remove.ensures.removed)
    c.remove.ensures.replies
