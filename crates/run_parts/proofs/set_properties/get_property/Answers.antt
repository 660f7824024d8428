use Rattle.run_world.proofs.Exits.{err_as}
use Rattle.run_parts.proofs.PropertySets.{looked_failed, looked_up}
use Rattle.run_parts.proofs.set_properties.get_property.Goals as goal
use Rattle.page_meaning.specs.Beans.{property_of}

pub returns-in_err-found-clause-does : goal.returns-in_err-found-clause-does
returns-in_err-found-clause-does g c =
    err_as c.from_residual.result c.in_err-found.field-0.0 c.from_residual.ensures.1
    (looked_failed (λ sc d. property_of c.args.property.now d) c.args.world.now c.look_up.new.world c.args.name.now c.in_err-found.field-0.0 c.in_err-found.ensures.does)

pub returns-clause-does : goal.returns-clause-does
returns-clause-does g c =
    looked_up (λ sc d. property_of c.args.property.now d) c.args.world.now c.look_up.new.world c.args.name.now c.in_ok-found.found c.property_of.result c.in_ok-found.ensures.does c.property_of.ensures
