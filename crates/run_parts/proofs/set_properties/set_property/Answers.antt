use Rattle.std.proofs.Common.{◌∙◌, arith, sym}
use Rattle.std.specs.Prelude.{map}
use Rattle.page_table.specs.Seat.{page_run_of}
use Rattle.pg_value.specs.Value.{datum_of}
use Rattle.run_parts.proofs.Operates.{first_at, second_at}
use Rattle.run_parts.proofs.PropertySets.{all_as, entry_as, one_as}
use Rattle.run_parts.proofs.set_properties.set_property.Goals as goal
use Rattle.run_world.specs.Params.{params_of}
use Rattle.run_world.specs.Seats.{seat_of}

pub returns-in-Entry-len2-clause-does : goal.returns-in-Entry-len2-clause-does
returns-in-Entry-len2-clause-does g c =
    entry_as c.args.world.now c.set_entry.new.world c.args.change.now.name.now c.args.change.now.mode.now (page_run_of (seat_of c.args.seat.now)).params (map datum_of c.args.change.now.args.now) (datum_of c.key-item.result) (datum_of c.new-item.result)
    c.set_entry.result (sym c.get.ensures ∙ c.in-Entry-len2.is-0)
    (sym (first_at c.args.change.now.args.now c.key-item.result (omega (arith, c.in-Entry-len2.len_at_least)) c.key-item.is)) (sym (second_at c.args.change.now.args.now c.new-item.result (omega (arith, c.in-Entry-len2.len_at_least)) c.new-item.is)) c.set_entry.ensures.does

pub returns-in-Parameters-default-clause-does : goal.returns-in-Parameters-default-clause-does
returns-in-Parameters-default-clause-does g c =
    all_as c.args.world.now c.set_all.new.world c.args.change.now.name.now c.args.change.now.mode.now (page_run_of (seat_of c.args.seat.now)).params (params_of c.params.result.now) (map datum_of c.args.change.now.args.now) c.set_all.result (sym c.get.ensures ∙ c.in-Parameters-default.is-0)
    c.params.ensures.list c.set_all.ensures.does

pub returns-in-Parameter-default-clause-does : goal.returns-in-Parameter-default-clause-does
returns-in-Parameter-default-clause-does g c =
    one_as c.args.world.now c.set_one.new.world c.args.change.now.name.now c.in-Parameter-default.property c.in-Parameter-default.parameter c.args.change.now.mode.now (page_run_of (seat_of c.args.seat.now)).params (params_of c.params-in-Parameter-default.result.now)
    (map datum_of c.args.change.now.args.now) c.set_one.result (sym c.get.ensures ∙ c.in-Parameter-default.is-0) c.params-in-Parameter-default.ensures.list c.set_one.ensures.does
