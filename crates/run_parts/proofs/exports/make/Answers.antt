use Rattle.std.proofs.Common.{[], ◌∷◌, List, Some, ap, subst, sym, ◌∙◌, ℕ}
use Rattle.std.specs.Option.{option_map}
use Rattle.run_parts.proofs.ExportLemmas.{changed_adds, made_removed, made_set}
use Rattle.run_world.proofs.Parts.{short_at}
use Rattle.run_parts.proofs.exports.make.Goals as goal
use Rattle.run_world.specs.Part.{Changes}
use Rattle.run_parts.specs.Exports.{change_of}
use Rattle.page_meaning.specs.State.{in_scopes}
use Rattle.pg_value.specs.Value.{datum_of}
use Rattle.scopes.specs.Scopes.{without_variable}
use Rattle.scopes.specs.declared.held_scope.HeldScope.TheVariants as held

pub returns-in_err-copy-in-Some-clause-does : goal.returns-in_err-copy-in-Some-clause-does
returns-in_err-copy-in-Some-clause-does g c = short_at c.args.world.now c.from_residual.result c.from_residual.ensures.1 (λ place s. changed_adds (change_of c.args.change.now ∷ []) s)

pub returns-in_ok-copy-in-Some-clause-does : goal.returns-in_ok-copy-in-Some-clause-does
returns-in_ok-copy-in-Some-clause-does g c =
    made_set c.args.world.now c.set.new.self (change_of c.args.change.now) (datum_of c.in_ok-copy-in-Some.field-0) c.set.result
    (ap (option_map datum_of) c.in-Some.is ∙ ap (λ v. Some (datum_of v)) (sym c.in_ok-copy-in-Some.ensures)) c.set.ensures.does

pub returns-in-None-clause-does : goal.returns-in-None-clause-does
returns-in-None-clause-does g c =
    made_removed c.args.world.now c.remove.new.self (change_of c.args.change.now) (ap (option_map datum_of) c.in-None.is)
    (subst (λ (name : List ℕ). Changes g.W.World.reached (λ s. in_scopes (without_variable s.scopes held.Page name) s) c.args.world.now c.remove.new.self) c.as_str.ensures c.remove.ensures.removed)
    c.remove.ensures.replies
