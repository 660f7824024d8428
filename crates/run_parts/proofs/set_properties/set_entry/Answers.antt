use Rattle.std.proofs.Common.{Err, ◌∙◌}
use Rattle.run_world.proofs.Adds.{assign_adds, result, thens}
use Rattle.run_world.proofs.Exits.{err_as}
use Rattle.run_world.proofs.Parts.{fail_doing, short_at, then_doing}
use Rattle.run_parts.proofs.PropertySets.{answered_doing, answered_failed, entry_doing, entry_set_adds}
use Rattle.run_parts.proofs.set_properties.set_entry.Goals as goal
use Rattle.page_meaning.specs.Core.{property_replaced}
use Rattle.page_meaning.specs.Variables.{assign}
use Rattle.page_meaning.specs.Went.{result_of, then_do}
use Rattle.pg_value.specs.Value.{datum_of}

pub returns-in_err-property-clause-does : goal.returns-in_err-property-clause-does
returns-in_err-property-clause-does g c =
    short_at c.args.world.now c.from_residual.result c.from_residual.ensures.1 (λ place. entry_set_adds place c.args.name.now (datum_of c.args.key.now) (datum_of c.args.new.now))

pub returns-in_err-found-clause-does : goal.returns-in_err-found-clause-does
returns-in_err-found-clause-does g c =
    err_as c.from_residual-in_err-found.result c.in_err-found.field-0.0 c.from_residual-in_err-found.ensures.1
    (entry_doing c.args.world.now c.look_up.new.world c.args.name.now c.in_ok-property.property (datum_of c.args.key.now) (datum_of c.args.new.now) (Err c.in_err-found.field-0.0)
    (c.in_ok-property.ensures ∙ c.text_of.ensures)
    (fail_doing (λ place q s1. then_do (result_of place (property_replaced c.in_ok-property.property (datum_of c.args.new.now) q.1) s1) (λ r s2. assign place q.0 c.args.name.now r s2)) c.args.world.now c.look_up.new.world
    c.in_err-found.field-0.0
    (λ place q.
    thens (result_of place (property_replaced c.in_ok-property.property (datum_of c.args.new.now) q.1)) (λ r s2. assign place q.0 c.args.name.now r s2)
    (result place (property_replaced c.in_ok-property.property (datum_of c.args.new.now) q.1)) (λ r. assign_adds place q.0 c.args.name.now r)) c.in_err-found.ensures.does))

pub returns-in_err-made-clause-does : goal.returns-in_err-made-clause-does
returns-in_err-made-clause-does g c =
    err_as c.from_residual-in_err-made.result c.in_err-made.field-0.0 c.from_residual-in_err-made.ensures.1
    (entry_doing c.args.world.now c.look_up.new.world c.args.name.now c.in_ok-property.property (datum_of c.args.key.now) (datum_of c.args.new.now) (Err c.in_err-made.field-0.0) (c.in_ok-property.ensures ∙ c.text_of.ensures)
    (then_doing (λ place q s1. then_do (result_of place (property_replaced c.in_ok-property.property (datum_of c.args.new.now) q.1) s1) (λ r s2. assign place q.0 c.args.name.now r s2)) c.args.world.now c.look_up.new.world
    c.look_up.new.world c.in_ok-found.found (Err c.in_err-made.field-0.0) c.in_ok-found.ensures.does
    (answered_failed datum_of (property_replaced c.in_ok-property.property (datum_of c.args.new.now) (datum_of c.in_ok-found.found.1)) (λ place r s2. assign place c.in_ok-found.found.0 c.args.name.now r s2) c.look_up.new.world
    c.in_err-made.field-0.0 (λ place r. assign_adds place c.in_ok-found.found.0 c.args.name.now r) c.in_err-made.ensures.answer)))

pub returns-clause-does : goal.returns-clause-does
returns-clause-does g c =
    entry_doing c.args.world.now c.assign.new.world c.args.name.now c.in_ok-property.property (datum_of c.args.key.now) (datum_of c.args.new.now) c.assign.result (c.in_ok-property.ensures ∙ c.text_of.ensures)
    (then_doing (λ place q s1. then_do (result_of place (property_replaced c.in_ok-property.property (datum_of c.args.new.now) q.1) s1) (λ r s2. assign place q.0 c.args.name.now r s2)) c.args.world.now c.look_up.new.world
    c.assign.new.world c.in_ok-found.found c.assign.result c.in_ok-found.ensures.does
    (answered_doing datum_of (property_replaced c.in_ok-property.property (datum_of c.args.new.now) (datum_of c.in_ok-found.found.1)) (λ place r s2. assign place c.in_ok-found.found.0 c.args.name.now r s2) c.look_up.new.world
    c.assign.new.world c.in_ok-made.made c.assign.result c.in_ok-made.ensures.answer c.assign.ensures.does))
