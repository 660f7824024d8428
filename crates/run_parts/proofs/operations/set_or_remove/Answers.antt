use Rattle.std.proofs.Common.{ap, subst, sym, ◌∙◌}
use Rattle.page_meaning.specs.Variables.{assign}
use Rattle.pg_value.specs.Value.{datum_of}
use Rattle.pg_value.specs.declared.value.Value.{Value}
use Rattle.run_parts.proofs.ObjectLemmas.{datum_some}
use Rattle.run_parts.proofs.Operates.{null_removes, setting_adds, some_sets}
use Rattle.run_parts.proofs.operations.set_or_remove.Goals as goal
use Rattle.run_world.proofs.Parts.{short_at}
use Rattle.run_world.specs.Part.{Doing}

pub assign-requires-clause-some : goal.assign-requires-clause-some
assign-requires-clause-some g c = λ e. datum_some c.args.value.now c.in_default.not-Null (ap datum_of (sym c.in_ok-copy-in_default.ensures) ∙ e)

pub returns-in-Null-clause-does : goal.returns-in-Null-clause-does
returns-in-Null-clause-does g c =
    null_removes c.args.world.now c.unassign.new.world c.args.variable.now.name c.args.variable.now.scope (datum_of c.args.value.now) c.unassign.result (ap datum_of c.in-Null.is) c.unassign.ensures.does

pub returns-in_err-copy-in_default-clause-does : goal.returns-in_err-copy-in_default-clause-does
returns-in_err-copy-in_default-clause-does g c =
    short_at c.args.world.now c.from_residual.result c.from_residual.ensures.1 (λ place. setting_adds place c.args.variable.now.name c.args.variable.now.scope (datum_of c.args.value.now))

pub returns-in_ok-copy-in_default-clause-does : goal.returns-in_ok-copy-in_default-clause-does
returns-in_ok-copy-in_default-clause-does g c =
    some_sets c.args.world.now c.assign.new.world c.args.variable.now.name c.args.variable.now.scope (datum_of c.args.value.now) c.assign.result (datum_some c.args.value.now c.in_default.not-Null)
    (subst (λ (v : Value). Doing g.W.World.reached g.W.World.replies (λ (u : Unit {0}). u) (λ place. assign place c.args.variable.now.scope c.args.variable.now.name (datum_of v)) c.args.world.now c.assign.new.world c.assign.result)
    c.in_ok-copy-in_default.ensures c.assign.ensures.does)
