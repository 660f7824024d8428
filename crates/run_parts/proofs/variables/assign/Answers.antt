use Rattle.std.proofs.Common.{List, subst, sym, ◌∙◌, ℕ}
use Rattle.run_parts.proofs.Lookups.{assign_asked, assign_held}
use Rattle.run_parts.proofs.variables.assign.Goals as goal
use Rattle.run_world.specs.Part.{Doing}
use Rattle.page_meaning.specs.Variables.{set_held}
use Rattle.pg_value.specs.Value.{datum_of}

pub returns-in-Some-clause-does : goal.returns-in-Some-clause-does
returns-in-Some-clause-does g c =
    assign_held c.args.world.now c.set.new.self c.args.scope c.in-Some.held c.args.name.now (datum_of c.args.value) c.set.result (sym c.of.ensures ∙ c.in-Some.is)
    (subst (λ (name : List ℕ). Doing g.W.World.reached g.W.World.replies (λ (u : Unit). u) (λ place. set_held place c.in-Some.held name (datum_of c.args.value)) c.args.world.now c.set.new.self c.set.result)
    c.as_text.ensures.text c.set.ensures.does)

pub returns-in-None-clause-does : goal.returns-in-None-clause-does
returns-in-None-clause-does g c =
    assign_asked c.args.world.now c.assign_in_application.new.world c.args.scope c.args.name.now (datum_of c.args.value) c.assign_in_application.result (sym c.of.ensures ∙ c.in-None.is) c.assign_in_application.ensures.does
