use Rattle.std.proofs.Common.{List, subst, ◌∙◌, ℕ}
use Rattle.run_parts.proofs.Lookups.{all_removed}
use Rattle.run_parts.proofs.variables.unassign_all.Goals as goal
use Rattle.run_world.specs.Part.{Changes}
use Rattle.page_meaning.specs.State.{in_scopes}
use Rattle.scopes.specs.Scopes.{without_variable}
use Rattle.scopes.specs.declared.held_scope.HeldScope.TheVariants as held

pub returns-clause-does : goal.returns-clause-does
returns-clause-does g c =
    all_removed c.args.world.now c.remove.new.self c.remove-2.new.self c.remove-3.new.self c.unassign.new.world c.args.name.now c.unassign.result
    (subst (λ (name : List ℕ). Changes g.W.World.reached (λ s. in_scopes (without_variable s.scopes held.Page name) s) c.args.world.now c.remove.new.self) (c.as_str.ensures ∙ c.as_text.ensures.text)
    c.remove.ensures.removed) c.remove.ensures.replies
    (subst (λ (name : List ℕ). Changes g.W.World.reached (λ s. in_scopes (without_variable s.scopes held.Request name) s) c.remove.new.self c.remove-2.new.self) (c.as_str-2.ensures ∙ c.as_text-2.ensures.text)
    c.remove-2.ensures.removed) c.remove-2.ensures.replies
    (subst (λ (name : List ℕ). Changes g.W.World.reached (λ s. in_scopes (without_variable s.scopes held.Session name) s) c.remove-2.new.self c.remove-3.new.self) (c.as_str-3.ensures ∙ c.as_text-3.ensures.text)
    c.remove-3.ensures.removed) c.remove-3.ensures.replies
    c.unassign.ensures.does
