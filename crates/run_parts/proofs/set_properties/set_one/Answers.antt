use Rattle.std.proofs.Common.{None, Ok, Some, ap, ◌∙◌}
use Rattle.run_world.proofs.Exits.{err_as}
use Rattle.run_world.proofs.Parts.{short_at, well_doing}
use Rattle.run_parts.proofs.PropertySets.{one_changed_to, one_failed, one_set_adds, one_unchanged}
use Rattle.run_parts.proofs.set_properties.set_one.Goals as goal
use Rattle.run_world.specs.Params.{params_of}

pub returns-in_err-values-clause-does : goal.returns-in_err-values-clause-does
returns-in_err-values-clause-does g c =
    short_at c.args.world.now c.from_residual.result c.from_residual.ensures.1 (λ place. one_set_adds place c.args.setting.now.name.now c.args.setting.now.property.now c.args.setting.now.parameter.now (params_of c.args.params.now))

pub returns-in_err-found-clause-does : goal.returns-in_err-found-clause-does
returns-in_err-found-clause-does g c =
    err_as c.from_residual-in_err-found.result c.in_err-found.field-0.0 c.from_residual-in_err-found.ensures.1
    (one_failed c.args.setting.now.name.now c.args.setting.now.property.now c.args.setting.now.parameter.now (params_of c.args.params.now) c.args.world.now c.look_up.new.world c.in_err-found.field-0.0 c.in_err-found.ensures.does)

pub returns-in_err-changed-clause-does : goal.returns-in_err-changed-clause-does
returns-in_err-changed-clause-does g c =
    err_as c.from_residual-in_err-changed.result c.in_err-changed.field-0.0 c.from_residual-in_err-changed.ensures.1
    (one_unchanged c.args.setting.now.name.now c.args.setting.now.property.now c.args.setting.now.parameter.now (params_of c.args.params.now) c.args.world.now c.look_up.new.world c.in_ok-values.values c.in_ok-found.found c.in_err-changed.field-0.0
    c.in_ok-values.ensures.made c.in_ok-found.ensures.does c.in_err-changed.ensures)

pub returns-in-Some-clause-does : goal.returns-in-Some-clause-does
returns-in-Some-clause-does g c =
    one_changed_to c.args.setting.now.name.now c.args.setting.now.property.now c.args.setting.now.parameter.now (params_of c.args.params.now) c.args.world.now c.look_up.new.world c.write_record.new.world c.in_ok-values.values c.in_ok-found.found
    (Some c.in-Some.changed) c.write_record.result c.in_ok-values.ensures.made c.in_ok-found.ensures.does (c.in_ok-changed.ensures ∙ ap Ok c.in-Some.is) c.write_record.ensures.does

pub returns-clause-does : goal.returns-clause-does
returns-clause-does g c =
    one_changed_to c.args.setting.now.name.now c.args.setting.now.property.now c.args.setting.now.parameter.now (params_of c.args.params.now) c.args.world.now c.look_up.new.world c.look_up.new.world c.in_ok-values.values c.in_ok-found.found None (Ok tt)
    c.in_ok-values.ensures.made c.in_ok-found.ensures.does (c.in_ok-changed.ensures ∙ ap Ok c.in-None.is) (well_doing c.look_up.new.world tt)
