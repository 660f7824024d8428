use Rattle.std.proofs.Common.{Err}
use Rattle.run_world.proofs.Exits.{err_as}
use Rattle.run_parts.proofs.PropertySets.{found_doing, looked_failed, looked_up}
use Rattle.run_parts.proofs.set_properties.find_property.Goals as goal
use Rattle.run_values.specs.Properties.{property_found}

pub returns-in_err-found-clause-does : goal.returns-in_err-found-clause-does
returns-in_err-found-clause-does g c =
    err_as c.from_residual.result c.in_err-found.field-0.0 c.from_residual.ensures.1
    (found_doing c.args.world.now c.look_up.new.world c.args.name.now c.args.property.now (Err c.in_err-found.field-0.0)
    (looked_failed (λ sc d. property_found c.args.property.now sc d) c.args.world.now c.look_up.new.world c.args.name.now c.in_err-found.field-0.0 c.in_err-found.ensures.does))

pub returns-clause-does : goal.returns-clause-does
returns-clause-does g c =
    found_doing c.args.world.now c.look_up.new.world c.args.name.now c.args.property.now c.property_found.result
    (looked_up (λ sc d. property_found c.args.property.now sc d) c.args.world.now c.look_up.new.world c.args.name.now c.in_ok-found.found c.property_found.result c.in_ok-found.ensures.does c.property_found.ensures)
