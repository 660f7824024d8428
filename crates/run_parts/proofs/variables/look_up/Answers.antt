use Rattle.std.proofs.Common.{◌≡◌, Err, List, None, Ok, Some, ap, subst, sym, ◌∙◌, ℕ}
use Rattle.run_world.proofs.Adds.{look_up_adds}
use Rattle.run_parts.proofs.Lookups.{look_up_asked, look_up_failed, look_up_found}
use Rattle.run_world.proofs.Parts.{short_at}
use Rattle.run_world.proofs.Exits.{err_as}
use Rattle.run_parts.proofs.variables.look_up.Goals as goal
use Rattle.run_world.specs.Part.{Doing}
use Rattle.page_meaning.specs.Variables.{inner_found}
use Rattle.page_meaning.specs.Work.{ask}
use Rattle.pg_value.specs.Value.{datum_of}
use Rattle.site_words.specs.Law.{told}
use Rattle.site_words.specs.declared.words.AppStep.TheVariants as step

pub returns-in_err-copy-clause-does : goal.returns-in_err-copy-clause-does
returns-in_err-copy-clause-does g c = short_at c.args.world.now c.from_residual.result c.from_residual.ensures.1 (λ place. look_up_adds place c.args.name.now)

pub returns-in-Some-clause-does : goal.returns-in-Some-clause-does
returns-in-Some-clause-does g c =
    let here : inner_found (g.W.World.variables c.args.world.now) c.args.name.now ≡ inner_found c.scopes.result.now c.as_str.result.now =
    ap (λ scopes. inner_found scopes c.args.name.now) (sym c.scopes.ensures) ∙ ap (inner_found c.scopes.result.now) (sym (c.as_str.ensures ∙ c.as_text.ensures.text)) in
    look_up_found g.W.World.variables (λ first w origin s h. (g.met.W.World.tells first w origin s h).0) c.args.world.now c.args.name.now (c.in-Some.scope, c.in_ok-copy.field-0)
    (here ∙ sym c.in-Some.ensures ∙ ap (λ v. Some (c.in-Some.scope, datum_of v)) (sym c.in_ok-copy.ensures))

pub returns-in_err-copy-2-clause-does : goal.returns-in_err-copy-2-clause-does
returns-in_err-copy-2-clause-does g c = short_at c.args.world.now c.from_residual-in_err-copy-2.result c.from_residual-in_err-copy-2.ensures.1 (λ place. look_up_adds place c.args.name.now)

pub returns-in_err-reply-clause-does : goal.returns-in_err-reply-clause-does
returns-in_err-reply-clause-does g c =
    let none : inner_found (g.W.World.variables c.args.world.now) c.args.name.now ≡ None =
    ap (λ scopes. inner_found scopes c.args.name.now) (sym c.scopes.ensures) ∙ ap (inner_found c.scopes.result.now) (sym (c.as_str.ensures ∙ c.as_text.ensures.text)) ∙ sym c.in_default.ensures in
    let does = subst (λ (name : List ℕ). Doing g.W.World.reached g.W.World.replies told (λ place. ask place (step.Get name)) c.args.world.now c.ask.new.self (Err c.in_err-reply.field-0.0))
    (c.in_ok-copy-2.ensures ∙ c.as_text-2.ensures.text) c.in_err-reply.ensures.does in
    err_as c.from_residual-in_err-reply.result c.in_err-reply.field-0.0 c.from_residual-in_err-reply.ensures.1
    (look_up_failed g.W.World.variables (λ first w origin s h. (g.met.W.World.tells first w origin s h).0) c.args.world.now c.ask.new.self c.args.name.now c.in_err-reply.field-0.0 none does)

pub returns-clause-does : goal.returns-clause-does
returns-clause-does g c =
    let none : inner_found (g.W.World.variables c.args.world.now) c.args.name.now ≡ None =
    ap (λ scopes. inner_found scopes c.args.name.now) (sym c.scopes.ensures) ∙ ap (inner_found c.scopes.result.now) (sym (c.as_str.ensures ∙ c.as_text.ensures.text)) ∙ sym c.in_default.ensures in
    let does = subst (λ (name : List ℕ). Doing g.W.World.reached g.W.World.replies told (λ place. ask place (step.Get name)) c.args.world.now c.ask.new.self (Ok c.in_ok-reply.reply))
    (c.in_ok-copy-2.ensures ∙ c.as_text-2.ensures.text) c.in_ok-reply.ensures.does in
    look_up_asked g.W.World.variables (λ first w origin s h. (g.met.W.World.tells first w origin s h).0) c.args.world.now c.ask.new.self c.args.name.now c.in_ok-reply.reply c.told_value.result none c.told_value.ensures does
