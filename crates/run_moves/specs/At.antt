-- Where a run is, in the words of the table.
use Rattle.page_table.specs.Seat.{Seat}
use Rattle.run_moves.specs.declared.at.At as machine_at
use Rattle.run_parts.specs.Records.{IsRecordsOf}
use Rattle.run_parts.specs.declared.request_records.RequestRecords.{RequestRecords}
use Rattle.run_world.specs.Seats.{params_at, seat_of}

-- the seat of its code
abbrev pub seat_at : machine_at.At → Seat
seat_at at = seat_of at.seat.now

-- the records that were made are those of its request and of the parameters of its page
abbrev pub IsRecordsAt : machine_at.At → RequestRecords → Type 0
IsRecordsAt at records = IsRecordsOf at.served.now.request.now (params_at at.seat.now) records
