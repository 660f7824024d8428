use Rattle.std.proofs.Common.{List, ℕ, subst}
use Rattle.run_moves.proofs.RoundArms.{named_none, named_set}
use Rattle.run_world.specs.Part.{Doing}
use Rattle.run_moves.proofs.rounds_arm.set_named.Goals as goal
use Rattle.page_meaning.specs.Variables.{set_held}
use Rattle.pg_value.specs.Value.{datum_of}
use Rattle.scopes.specs.declared.held_scope.HeldScope.TheVariants as held

pub returns-in-Some-clause-does : goal.returns-in-Some-clause-does
returns-in-Some-clause-does g c =
    named_set c.args.world.now c.set.new.self c.args.name.now c.in-Some.name (datum_of c.args.value) c.set.result c.in-Some.is
    (subst (λ (name : List ℕ). Doing g.W.World.reached g.W.World.replies (λ (u : Unit). u) (λ place. set_held place held.Page name (datum_of c.args.value)) c.args.world.now c.set.new.self c.set.result)
    c.as_text.ensures.text c.set.ensures.does)

pub returns-in-None-clause-does : goal.returns-in-None-clause-does
returns-in-None-clause-does g c = named_none c.args.world.now c.args.name.now (datum_of c.args.value) c.in-None.is
