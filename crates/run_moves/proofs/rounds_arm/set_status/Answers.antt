use Rattle.std.proofs.Common.{◌∙◌, List, Err, Some, ap, refl, subst, sym, ℕ}
use Rattle.jstl_functions.specs.Functions.{measured}
use Rattle.run_moves.proofs.RoundArms.{status_adds, status_failed, status_set}
use Rattle.run_moves.proofs.rounds_arm.set_status.Goals as goal
use Rattle.run_values.specs.Rounds.{round_at}
use Rattle.run_world.proofs.Exits.{err_as}
use Rattle.run_world.proofs.Parts.{short_at}
use Rattle.run_world.specs.Part.{Doing}
use Rattle.page_meaning.specs.Rounds.{status_record}
use Rattle.page_meaning.specs.Variables.{set_held}
use Rattle.pg_text.specs.Failure.{AnswersAs}
use Rattle.pg_value.specs.Value.{datum_of}
use Rattle.scopes.specs.declared.held_scope.HeldScope.TheVariants as held

pub returns-in_err-made-clause-does : goal.returns-in_err-made-clause-does
returns-in_err-made-clause-does g c =
    short_at c.args.world.now c.from_residual.result c.from_residual.ensures.1
    (λ place. status_adds place (Some c.args.name.now) (status_record c.args.statuses.now (round_at c.args.mark.now) (datum_of c.args.item)))

pub returns-in_err-status-clause-does : goal.returns-in_err-status-clause-does
returns-in_err-status-clause-does g c =
    err_as c.from_residual-in_err-status.result c.in_err-status.field-0.0 c.from_residual-in_err-status.ensures.1
    (status_failed c.args.world.now (Some c.args.name.now) c.args.name.now (status_record c.args.statuses.now (round_at c.args.mark.now) (datum_of c.args.item)) c.in_err-status.field-0.0 refl
    (subst (λ d. AnswersAs datum_of (measured d) (Err c.in_err-status.field-0.0)) c.in_ok-made.ensures.status c.in_err-status.ensures))

pub returns-clause-does : goal.returns-clause-does
returns-clause-does g c =
    let named = subst (λ (name : List ℕ). Doing g.W.World.reached g.W.World.replies (λ (u : Unit). u) (λ place. set_held place held.Page name (datum_of c.in_ok-status.status)) c.args.world.now c.set.new.self c.set.result)
    c.as_text.ensures.text c.set.ensures.does in
    status_set c.args.world.now c.set.new.self (Some c.args.name.now) c.args.name.now (status_record c.args.statuses.now (round_at c.args.mark.now) (datum_of c.args.item)) c.in_ok-status.status c.set.result refl
    (ap measured (sym c.in_ok-made.ensures.status) ∙ c.in_ok-status.ensures) named
