use Rattle.std.proofs.Common.{sym, ap, ◌∙◌, subst}
use Rattle.run_world.specs.Part.{Changes}
use Rattle.run_moves.proofs.Behind.{changes_as}
use Rattle.run_moves.proofs.raising.remove_named.Goals as goal
use Rattle.page_meaning.specs.Loops.{without_named}
use Rattle.page_meaning.specs.State.{in_scopes}
use Rattle.scopes.specs.Scopes.{without_variable}
use Rattle.scopes.specs.declared.held_scope.HeldScope.TheVariants as held

pub returns-in-Some-clause-removed : goal.returns-in-Some-clause-removed
returns-in-Some-clause-removed g c =
    changes_as (λ s. in_scopes (without_variable s.scopes held.Page c.as_str.result.now) s) (λ s. without_named c.args.name.now s) c.args.world.now c.remove.new.self
    (λ s. ap (λ n. in_scopes (without_variable s.scopes held.Page n) s) (c.as_str.ensures ∙ c.as_text.ensures.text) ∙ ap (λ n. without_named n s) (sym c.in-Some.is)) c.remove.ensures.removed

pub returns-in_default-clause-removed : goal.returns-in_default-clause-removed
returns-in_default-clause-removed g c =
    subst (λ n. Changes g.W.World.reached (λ s. without_named n s) c.args.world.now c.args.world.now) (sym c.in_default.is) (record { by = λ first origin s h. h })
