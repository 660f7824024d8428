use Rattle.std.proofs.Common.{◌≡◌, ◌+◌, ◌-◌, ◌*◌, length}
use Rattle.run_world.specs.Known.{Known, ServesSo}
use Rattle.run_moves.specs.Opened.{open_of}
use Rattle.run_world.specs.Seats.{params_at, seat_of}
use Rattle.page_machine.specs.Turn.{SeatHolds, StandsInCode}
use Rattle.page_machine.proofs.Looping.{RunSoFar}
use Rattle.page_machine.proofs.+machine.Given as goal
use Rattle.page_meaning.specs.Work.{visit_limit}
use Rattle.page_table.specs.Measure.{span, weight}
use Rattle.page_table.specs.Seat.{code_of}
use Rattle.run_parts.specs.Records.{IsRecordsOf}

abbrev pub decreases-turn::run_code : goal.decreases-turn::run_code
decreases-turn::run_code g l = 8 * l.start.left + 7

abbrev pub decreases-turn::turn : goal.decreases-turn::turn
decreases-turn::turn g l = 8 * l.opened.now.left + 6

abbrev pub decreases-turn::call_out : goal.decreases-turn::call_out
decreases-turn::call_out g l = 8 * l.opened.now.left + 5

abbrev pub decreases-calls::tag_call : goal.decreases-calls::tag_call
decreases-calls::tag_call g l = 8 * l.opened.now.left + 4

abbrev pub decreases-calls::enter_call : goal.decreases-calls::enter_call
decreases-calls::enter_call g l = 8 * l.opened.now.left + 3

abbrev pub decreases-calls::given_call : goal.decreases-calls::given_call
decreases-calls::given_call g l = 8 * l.opened.now.left + 4

abbrev pub decreases-pages::include_call : goal.decreases-pages::include_call
decreases-pages::include_call g l = 8 * l.opened.now.left + 4

abbrev pub decreases-pages::import_call : goal.decreases-pages::import_call
decreases-pages::import_call g l = 8 * l.opened.now.left + 4

abbrev pub decreases-pages::include : goal.decreases-pages::include
decreases-pages::include g l = 8 * l.opened.now.left + 3

abbrev pub decreases-pages::include_page : goal.decreases-pages::include_page
decreases-pages::include_page g l = 8 * l.page.now.left + 10

abbrev pub decreases-pages::included_page : goal.decreases-pages::included_page
decreases-pages::included_page g l = 8 * l.start.left + 9

abbrev pub decreases-pages::enter_page : goal.decreases-pages::enter_page
decreases-pages::enter_page g l = 8 * l.start.left + 8

-- the turns that are left: page_table's number, with the visits that the world has counted
abbrev pub decreases-turn::run_code-loop-op : goal.decreases-turn::run_code-loop-op
decreases-turn::run_code-loop-op g l =
    (visit_limit - g.W.World.visits l.world) * span (code_of (seat_of l.start.seat.now)) + weight (length (code_of (seat_of l.start.seat.now))) l.pc (open_of l.opened).catches

abbrev pub invariant-turn::run_code-loop-op : goal.invariant-turn::run_code-loop-op
invariant-turn::run_code-loop-op g l = record {
  left : l.opened.left ≡ l.start.left;
  covered : g.W.World.covered l.world;
  known : Known g.W.World.reached g.W.World.stores l.served l.world;
  records : IsRecordsOf l.served.request.now (params_at l.start.seat.now) l.records;
  holds : SeatHolds (seat_of l.start.seat.now) (length (g.W.World.variables l.world).frames);
  standing : StandsInCode (seat_of l.start.seat.now) l.pc (g.W.World.kept l.world) (open_of l.opened);
  so_far : RunSoFar g.W.World.reached g.W.World.replies (ServesSo g.W.World.stores l.served) (seat_of l.start.seat.now) l.start.pc l.start.left l.fn.world l.world l.pc (open_of l.opened);
}
