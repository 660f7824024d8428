use Rattle.std.proofs.Common.{Err, List, Ok, subst, ◌∙◌, ℕ}
use Rattle.run_world.proofs.Adds.{variable_adds}
use Rattle.run_world.proofs.Exits.{err_as}
use Rattle.run_parts.proofs.Lookups.{find_asked, find_failed}
use Rattle.run_world.proofs.Parts.{short_at}
use Rattle.run_parts.proofs.variables.find_in_application.Goals as goal
use Rattle.run_world.specs.Part.{Doing}
use Rattle.page_meaning.specs.Work.{ask}
use Rattle.scopes.specs.Scopes.{found}
use Rattle.site_words.specs.Law.{told}
use Rattle.site_words.specs.declared.words.AppStep.TheVariants as step

pub returns-in_err-copy-clause-does : goal.returns-in_err-copy-clause-does
returns-in_err-copy-clause-does g c =
    short_at c.args.world.now c.from_residual.result c.from_residual.ensures.1 (λ place s. variable_adds c.args.strict place c.args.name.now (found s.scopes c.args.name.now) s)

pub returns-in_err-reply-clause-does : goal.returns-in_err-reply-clause-does
returns-in_err-reply-clause-does g c =
    let does = subst (λ (name : List ℕ). Doing g.W.World.reached g.W.World.replies told (λ place. ask place (step.Get name)) c.args.world.now c.ask.new.self (Err c.in_err-reply.field-0.0))
    (c.in_ok-copy.ensures ∙ c.as_text.ensures.text) c.in_err-reply.ensures.does in
    err_as c.from_residual-in_err-reply.result c.in_err-reply.field-0.0 c.from_residual-in_err-reply.ensures.1
    (find_failed g.W.World.variables (λ first w origin s h. (g.met.W.World.tells first w origin s h).0) c.args.world.now c.ask.new.self c.args.strict c.args.name.now c.in_err-reply.field-0.0 c.requires.nowhere does)

pub returns-clause-does : goal.returns-clause-does
returns-clause-does g c =
    let does = subst (λ (name : List ℕ). Doing g.W.World.reached g.W.World.replies told (λ place. ask place (step.Get name)) c.args.world.now c.ask.new.self (Ok c.in_ok-reply.reply))
    (c.in_ok-copy.ensures ∙ c.as_text.ensures.text) c.in_ok-reply.ensures.does in
    find_asked g.W.World.variables (λ first w origin s h. (g.met.W.World.tells first w origin s h).0) c.args.world.now c.ask.new.self c.args.strict c.args.name.now c.in_ok-reply.reply c.told_value.result c.nowhere.result c.requires.nowhere c.told_value.ensures c.nowhere.ensures does
