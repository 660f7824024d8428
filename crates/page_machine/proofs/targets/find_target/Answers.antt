use Rattle.std.proofs.Common.{◌∙◌, map}
use Rattle.page_machine.proofs.PageCalls.{first_is, target_failed, target_found, target_short}
use Rattle.page_machine.proofs.targets.find_target.Goals as goal
use Rattle.page_machine.specs.Pages.{params_for}
use Rattle.page_table.specs.Seat.{page_run_of}
use Rattle.pg_value.specs.Value.{datum_of}
use Rattle.run_world.specs.Seats.{seat_of}

pub returns-in_err-path : goal.returns-in_err-path
returns-in_err-path c =
    target_failed (page_run_of (seat_of c.args.seat.now)) c.args.values.now c.text_of-address.result.now (c.text_of-address.ensures ∙ first_is c.args.values.now c.index-values-0.result c.requires c.index-values-0.is) c.in_err-path.field-0.0
    c.in_err-path.ensures c.from_residual.result c.from_residual.ensures.1

pub returns-in_err-params : goal.returns-in_err-params
returns-in_err-params c = target_short (page_run_of (seat_of c.args.seat.now)) (map datum_of c.args.values.now) c.from_residual-in_err-params.result c.from_residual-in_err-params.ensures.1

pub returns : goal.returns
returns c =
    target_found (page_run_of (seat_of c.args.seat.now)) c.args.values.now c.text_of-address.result.now (c.text_of-address.ensures ∙ first_is c.args.values.now c.index-values-0.result c.requires c.index-values-0.is) c.in_ok-path.path
    (params_for (page_run_of (seat_of c.args.seat.now)) c.in_ok-params.params) c.in_ok-path.ensures (c.in_ok-params.ensures (page_run_of (seat_of c.args.seat.now)))
