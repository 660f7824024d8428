-- The page run of a seat.
use Rattle.std.proofs.Common.{◌≡◌, refl}
use Rattle.page_table.specs.Seat.{Seat, in_page, in_tag, page_run_of, program_of}

pub run_path : (seat : Seat) → (page_run_of seat).page.path ≡ (program_of seat).path
run_path (in_page program params) = refl
run_path (in_tag call caller) = run_path caller
