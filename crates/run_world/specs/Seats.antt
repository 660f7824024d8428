-- Where a code runs, in the words of the table.
use Rattle.std.specs.Prelude.{map}
use Rattle.run_world.specs.Params.{params_of}
use Rattle.run_world.specs.Programs.{program_of}
use Rattle.run_world.specs.Tags.{tag_of}
use Rattle.run_world.specs.declared.params.Params.{Params}
use Rattle.run_world.specs.declared.raised.Raise as machine_raise
use Rattle.run_world.specs.declared.seat.CallSeat as machine_call
use Rattle.run_world.specs.declared.seat.Export as machine_export
use Rattle.run_world.specs.declared.seat.Seat as machine_seat
use Rattle.run_world.specs.declared.seat.Seat.{InPage, InTag'}
use Rattle.page_meaning.specs.Context.{Export}
use Rattle.page_meaning.specs.Faults.{Raise}
use Rattle.page_table.specs.Seat.{CallSeat, Seat, in_page, in_tag}

-- a variable that is given
abbrev pub export_of : machine_export.Export → Export
export_of export = record { own = export.own; outer = export.outer; scope = export.scope }

-- a call
abbrev pub call_of : machine_call.CallSeat → CallSeat
call_of call = record { tag = tag_of call.tag.now; exports = map export_of call.exports.now; body = call.body.now; fragments = call.fragments.now; behind = call.behind; frame = call.frame }

-- where a code runs
abbrev pub seat_of : machine_seat.Seat → Seat
seat_of (InPage program params) = in_page (program_of program.now) (params_of params.now)
seat_of (InTag' call q caller) = in_tag (call_of call.now) (seat_of caller)

-- the parameters of the page that runs
abbrev pub params_at : machine_seat.Seat → Params
params_at (InPage program params) = params.now
params_at (InTag' call q caller) = params_at caller

-- a fault with its place
abbrev pub raise_of : machine_raise.Raise → Raise
raise_of raise = record { fault = raise.fault; place = raise.place }
