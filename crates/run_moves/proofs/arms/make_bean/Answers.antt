use Rattle.std.proofs.Common.{◌≡◌, ◌∙◌, Err, List, Ok, ap, subst, sym, ℕ, true, false, Bool}
use Rattle.std.specs.Prelude.{is_some}
use Rattle.run_moves.proofs.AskLemmas.{is_some_map, bean_adds, bean_asked, bean_set, bean_there, bean_unasked, bean_unset}
use Rattle.run_world.proofs.Exits.{err_as}
use Rattle.run_world.proofs.Parts.{short_at}
use Rattle.run_moves.proofs.arms.make_bean.Goals as goal
use Rattle.run_world.specs.Part.{Doing}
use Rattle.page_meaning.specs.Variables.{set_held}
use Rattle.page_table.specs.Act.{bean_made}
use Rattle.page_meaning.specs.Work.{ask}
use Rattle.pg_value.specs.Value.{datum_of}
use Rattle.scopes.specs.HeldScope.{held_scope}
use Rattle.scopes.specs.Scopes.{found_in}
use Rattle.site_words.specs.Law.{told}
use Rattle.site_words.specs.declared.words.AppStep.TheVariants as step

pub returns-in_err-copy-clause-does : goal.returns-in_err-copy-clause-does
returns-in_err-copy-clause-does g c =
    short_at c.args.world.now c.from_residual.result c.from_residual.ensures.1 (λ place. bean_adds place (held_scope c.args.variable.now.scope) c.args.variable.now.name (datum_of c.args.bean.now))

pub returns-in_err-copy-2-clause-does : goal.returns-in_err-copy-2-clause-does
returns-in_err-copy-2-clause-does g c =
    short_at c.args.world.now c.from_residual-in_err-copy-2.result c.from_residual-in_err-copy-2.ensures.1 (λ place. bean_adds place (held_scope c.args.variable.now.scope) c.args.variable.now.name (datum_of c.args.bean.now))

pub returns-in_err-reply-clause-does : goal.returns-in_err-reply-clause-does
returns-in_err-reply-clause-does g c =
    let does = subst (λ (name : List ℕ). Doing g.W.World.reached g.W.World.replies told (λ place. ask place (step.Ensure name c.in_ok-copy-2.field-0)) c.args.world.now c.ask.new.self (Err c.in_err-reply.field-0.0))
    (c.in_ok-copy.ensures ∙ c.as_text-name.ensures.text) c.in_err-reply.ensures.does in
    let failed = bean_unasked c.args.world.now c.ask.new.self (held_scope c.args.variable.now.scope) c.args.variable.now.name c.in_ok-copy-2.field-0 c.in_err-reply.field-0.0 (sym c.of.ensures ∙ c.in_default.is) does in
    err_as c.from_residual-in_err-reply.result c.in_err-reply.field-0.0 c.from_residual-in_err-reply.ensures.1
    (subst (λ v. Doing g.W.World.reached g.W.World.replies (λ (b : Bool). b) (λ place. bean_made place (held_scope c.args.variable.now.scope) c.args.variable.now.name (datum_of v)) c.args.world.now c.ask.new.self (Err c.in_err-reply.field-0.0))
    (c.in_ok-copy-2.ensures ∙ c.value.ensures.same) failed)

pub returns-then-is_some-clause-does : goal.returns-then-is_some-clause-does
returns-then-is_some-clause-does g c =
    let there : is_some (found_in (g.W.World.variables c.args.world.now) c.in-Some.held c.args.variable.now.name) ≡ true =
    ap (λ v. is_some (found_in v c.in-Some.held c.args.variable.now.name)) (sym c.scopes.ensures) ∙ ap (λ n. is_some (found_in c.scopes.result.now c.in-Some.held n)) (sym (c.as_str.ensures ∙ c.as_text-name.ensures.text))
    ∙ ap is_some (sym c.find_in.ensures) ∙ is_some_map _ c.find_in.result ∙ sym c.is_some.ensures ∙ c.if-is_some.true in
    bean_there g.W.World.variables (λ first w origin s h. (g.met.W.World.tells first w origin s h).0) c.args.world.now (held_scope c.args.variable.now.scope) c.in-Some.held c.args.variable.now.name (datum_of c.args.bean.now) (sym c.of.ensures ∙ c.in-Some.is) there

pub returns-in_err-copy-3-clause-does : goal.returns-in_err-copy-3-clause-does
returns-in_err-copy-3-clause-does g c =
    short_at c.args.world.now c.from_residual-in_err-copy-3.result c.from_residual-in_err-copy-3.ensures.1 (λ place. bean_adds place (held_scope c.args.variable.now.scope) c.args.variable.now.name (datum_of c.args.bean.now))

pub returns-in_err-set-clause-does : goal.returns-in_err-set-clause-does
returns-in_err-set-clause-does g c =
    let gone : is_some (found_in (g.W.World.variables c.args.world.now) c.in-Some.held c.args.variable.now.name) ≡ false =
    ap (λ v. is_some (found_in v c.in-Some.held c.args.variable.now.name)) (sym c.scopes.ensures) ∙ ap (λ n. is_some (found_in c.scopes.result.now c.in-Some.held n)) (sym (c.as_str.ensures ∙ c.as_text-name.ensures.text))
    ∙ ap is_some (sym c.find_in.ensures) ∙ is_some_map _ c.find_in.result ∙ sym c.is_some.ensures ∙ c.if-is_some.false in
    let named = subst (λ (name : List ℕ). Doing g.W.World.reached g.W.World.replies (λ (u : Unit). u) (λ place. set_held place c.in-Some.held name (datum_of c.in_ok-copy-3.field-0)) c.args.world.now c.set.new.self (Err c.in_err-set.field-0.0))
    c.as_text-name.ensures.text c.in_err-set.ensures.does in
    let does = subst (λ v. Doing g.W.World.reached g.W.World.replies (λ (u : Unit). u) (λ place. set_held place c.in-Some.held c.args.variable.now.name (datum_of v)) c.args.world.now c.set.new.self (Err c.in_err-set.field-0.0))
    (c.in_ok-copy-3.ensures ∙ c.value-2.ensures.same) named in
    err_as c.from_residual-in_err-set.result c.in_err-set.field-0.0 c.from_residual-in_err-set.ensures.1
    (bean_unset g.W.World.variables (λ first w origin s h. (g.met.W.World.tells first w origin s h).0) c.args.world.now c.set.new.self (held_scope c.args.variable.now.scope) c.in-Some.held c.args.variable.now.name (datum_of c.args.bean.now) c.in_err-set.field-0.0
    (sym c.of.ensures ∙ c.in-Some.is) gone does)

pub returns-clause-does : goal.returns-clause-does
returns-clause-does g c =
    let gone : is_some (found_in (g.W.World.variables c.args.world.now) c.in-Some.held c.args.variable.now.name) ≡ false =
    ap (λ v. is_some (found_in v c.in-Some.held c.args.variable.now.name)) (sym c.scopes.ensures) ∙ ap (λ n. is_some (found_in c.scopes.result.now c.in-Some.held n)) (sym (c.as_str.ensures ∙ c.as_text-name.ensures.text))
    ∙ ap is_some (sym c.find_in.ensures) ∙ is_some_map _ c.find_in.result ∙ sym c.is_some.ensures ∙ c.if-is_some.false in
    let named = subst (λ (name : List ℕ). Doing g.W.World.reached g.W.World.replies (λ (u : Unit). u) (λ place. set_held place c.in-Some.held name (datum_of c.in_ok-copy-3.field-0)) c.args.world.now c.set.new.self (Ok c.in_ok-set.field-0))
    c.as_text-name.ensures.text c.in_ok-set.ensures.does in
    let does = subst (λ v. Doing g.W.World.reached g.W.World.replies (λ (u : Unit). u) (λ place. set_held place c.in-Some.held c.args.variable.now.name (datum_of v)) c.args.world.now c.set.new.self (Ok c.in_ok-set.field-0))
    (c.in_ok-copy-3.ensures ∙ c.value-2.ensures.same) named in
    bean_set g.W.World.variables (λ first w origin s h. (g.met.W.World.tells first w origin s h).0) c.args.world.now c.set.new.self (held_scope c.args.variable.now.scope) c.in-Some.held c.args.variable.now.name (datum_of c.args.bean.now) c.in_ok-set.field-0
    (sym c.of.ensures ∙ c.in-Some.is) gone does

pub returns-in_default-clause-does : goal.returns-in_default-clause-does
returns-in_default-clause-does g c =
    let does = subst (λ (name : List ℕ). Doing g.W.World.reached g.W.World.replies told (λ place. ask place (step.Ensure name c.in_ok-copy-2.field-0)) c.args.world.now c.ask.new.self (Ok c.in_ok-reply.reply))
    (c.in_ok-copy.ensures ∙ c.as_text-name.ensures.text) c.in_ok-reply.ensures.does in
    let made = bean_asked c.args.world.now c.ask.new.self (held_scope c.args.variable.now.scope) c.args.variable.now.name c.in_ok-copy-2.field-0 c.in_ok-reply.reply c.is_created.result (sym c.of.ensures ∙ c.in_default.is) c.is_created.ensures does in
    subst (λ v. Doing g.W.World.reached g.W.World.replies (λ (b : Bool). b) (λ place. bean_made place (held_scope c.args.variable.now.scope) c.args.variable.now.name (datum_of v)) c.args.world.now c.ask.new.self (Ok c.is_created.result))
    (c.in_ok-copy-2.ensures ∙ c.value.ensures.same) made
