use Rattle.jstl_functions.specs.Functions.{measured}
use Rattle.run_world.proofs.Adds.{assign_adds}
use Rattle.run_world.proofs.Exits.{err_as}
use Rattle.run_parts.proofs.PropertySets.{answered_doing, answered_failed}
use Rattle.run_parts.proofs.set_properties.write_record.Goals as goal
use Rattle.page_meaning.specs.Variables.{assign}
use Rattle.pg_value.specs.Datum.{entries_of, rec}
use Rattle.pg_value.specs.Value.{datum_of}

pub returns-in_err-record-clause-does : goal.returns-in_err-record-clause-does
returns-in_err-record-clause-does g c =
    err_as c.from_residual.result c.in_err-record.field-0.0 c.from_residual.ensures.1
    (answered_failed datum_of (measured (rec (entries_of c.args.entries))) (λ place r s. assign place c.args.scope c.args.name.now r s) c.args.world.now c.in_err-record.field-0.0
    (λ place r. assign_adds place c.args.scope c.args.name.now r) c.in_err-record.ensures.answer)

pub returns-clause-does : goal.returns-clause-does
returns-clause-does g c =
    answered_doing datum_of (measured (rec (entries_of c.args.entries))) (λ place r s. assign place c.args.scope c.args.name.now r s) c.args.world.now c.assign.new.world c.in_ok-record.record c.assign.result
    c.in_ok-record.ensures.answer c.assign.ensures.does
