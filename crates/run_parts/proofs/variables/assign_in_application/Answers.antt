use Rattle.std.proofs.Common.{Err, List, Ok, subst, sym, ◌∙◌, ℕ}
use Rattle.run_world.proofs.Adds.{set_application_adds}
use Rattle.run_world.proofs.Exits.{err_as}
use Rattle.run_parts.proofs.Lookups.{application_failed, application_over, application_set}
use Rattle.run_world.proofs.Parts.{short_at}
use Rattle.run_parts.proofs.variables.assign_in_application.Goals as goal
use Rattle.run_world.specs.Part.{Doing}
use Rattle.page_meaning.specs.Work.{ask}
use Rattle.pg_value.specs.Value.{datum_of}
use Rattle.site_words.specs.Law.{told}
use Rattle.site_words.specs.declared.words.AppStep.TheVariants as step

pub returns-then-is_too_large-clause-does : goal.returns-then-is_too_large-clause-does
returns-then-is_too_large-clause-does g c = application_over c.args.world.now c.args.name.now (datum_of c.args.value) (sym c.is_too_large.ensures ∙ c.if-is_too_large.true)

pub returns-in_err-copy-clause-does : goal.returns-in_err-copy-clause-does
returns-in_err-copy-clause-does g c = short_at c.args.world.now c.from_residual.result c.from_residual.ensures.1 (λ place. set_application_adds place c.args.name.now (datum_of c.args.value))

pub returns-in_err-ask-clause-does : goal.returns-in_err-ask-clause-does
returns-in_err-ask-clause-does g c =
    let does = subst (λ (name : List ℕ). Doing g.W.World.reached g.W.World.replies told (λ place. ask place (step.Set name c.args.value)) c.args.world.now c.ask.new.self (Err c.in_err-ask.field-0.0))
    (c.in_ok-copy.ensures ∙ c.as_text.ensures.text) c.in_err-ask.ensures.does in
    err_as c.from_residual-in_err-ask.result c.in_err-ask.field-0.0 c.from_residual-in_err-ask.ensures.1
    (application_failed c.args.world.now c.ask.new.self c.args.name.now c.args.value c.in_err-ask.field-0.0 (sym c.is_too_large.ensures ∙ c.if-is_too_large.false) does)

pub returns-clause-does : goal.returns-clause-does
returns-clause-does g c =
    let does = subst (λ (name : List ℕ). Doing g.W.World.reached g.W.World.replies told (λ place. ask place (step.Set name c.args.value)) c.args.world.now c.ask.new.self (Ok c.in_ok-ask.field-0))
    (c.in_ok-copy.ensures ∙ c.as_text.ensures.text) c.in_ok-ask.ensures.does in
    application_set c.args.world.now c.ask.new.self c.args.name.now c.args.value c.in_ok-ask.field-0 (sym c.is_too_large.ensures ∙ c.if-is_too_large.false) does
