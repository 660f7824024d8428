use Rattle.page_code.specs.Calls.{body_size, call_size, fragments_size}
use Rattle.page_code.specs.Fits.{FragmentsBegin}
use Rattle.page_code.specs.Ops.{address_with}
use Rattle.page_code.specs.Shapes.{cell as made_cell}
use Rattle.page_code.specs.Tables.{IsCellAt}
use Rattle.page_code.specs.declared.call.CallOut.TheVariants as call
use Rattle.page_code.specs.declared.code.Cell.{Cell}
use Rattle.page_code.specs.declared.instr.Instr.TheVariants as instr
use Rattle.page_machine.proofs.+machine.Goals as goal
use Rattle.page_machine.proofs.CallExits.{acted_stepped, normal_is, raised_is, stepped_as}
use Rattle.page_machine.proofs.Entering.{entered_failed, entered_known, entered_more, entered_on, entered_over, entered_room, entered_thrown}
use Rattle.page_machine.proofs.Frequent.{fell_off, went_on}
use Rattle.page_machine.proofs.GivenCalls.{begins_given, code_deep, copy_failed, given_none, given_page, gives_so}
use Rattle.page_machine.proofs.GivenRuns.{given_known, given_on, given_over, given_room, given_thrown}
use Rattle.page_machine.proofs.IncludedRuns.{included_known, included_left, included_on, included_over, included_redirected, included_room, included_thrown}
use Rattle.page_machine.proofs.Looping.{begins_at, behind_turn, call_as, cell_at, finds_at, holds_more, loop_nearer, move_is, over_with, simple_of, so_far_start, standing_start, within_code}
use Rattle.page_machine.proofs.PageCalls.{import_stepped, include_stepped, include_unflushed, included_run_grows, page_failed, ran_page}
use Rattle.page_machine.proofs.TagCalls.{call_with, entered_grows, entered_move, finds_so, tag_code_fits, tag_deep, tag_failed, tag_gone, tag_made, tag_short}
use Rattle.page_machine.proofs.OwnParams.{with_params}
use Rattle.page_machine.proofs.Room.{behind_so, between, changes_so, counted_so, dropped_so, taken_so}
use Rattle.page_machine.specs.Pages.{included_run, params_for}
use Rattle.page_machine.specs.Turn.{CallBegins, SeatHolds}
use Rattle.page_meaning.specs.Attributes.{table_of}
use Rattle.page_meaning.specs.Exports.{exports_of}
use Rattle.page_meaning.specs.Meaning.{flush_if}
use Rattle.page_meaning.specs.Tags.{first_frame}
use Rattle.page_meaning.specs.Went.{Raised, Well}
use Rattle.page_table.specs.Act.{act, called_out, move_of, with_stack}
use Rattle.page_table.specs.Calls.{given_called}
use Rattle.page_table.specs.Checked.{SeatFits, TagsFit}
use Rattle.page_table.specs.Finds.{CallFinds, Finds}
use Rattle.page_table.specs.Seat.{code_at, code_of, in_tag, nothing, page_run_of, program_of as program_in, source_text}
use Rattle.pg_text.specs.Failure.{Answers}
use Rattle.pg_text.specs.declared.place.Place.{Place}
use Rattle.pg_value.specs.Value.{datum_of}
use Rattle.run_moves.proofs.Acts.{acted_as, acted_short}
use Rattle.run_moves.proofs.Behind.{acted_spent}
use Rattle.run_moves.specs.At.{IsRecordsAt, seat_at}
use Rattle.run_moves.specs.Opened.{open_of}
use Rattle.run_moves.specs.declared.flow.End.TheVariants as ends
use Rattle.run_moves.specs.declared.flow.Flow.TheVariants as flows
use Rattle.run_parts.specs.Given.{given_by}
use Rattle.run_parts.specs.Records.{IsRecordsOf}
use Rattle.run_world.specs.Params.{params_of}
use Rattle.run_world.proofs.Knowing.{known_changed, known_done, serves_changed, serves_done}
use Rattle.run_world.specs.Programs.{program_of}
use Rattle.run_world.specs.Seats.{call_of, export_of, params_at, seat_of}
use Rattle.run_world.specs.Tags.{tag_of}
use Rattle.std.proofs.Common.{Err, List, None, Ok, Some, [], ap, arith, length, refl, rules, subst, suc, sym, ◌+◌, ◌++◌, ◌<◌, ◌^◌, ◌∙◌, ◌≡◌, ◌≤◌}
use Rattle.std.specs.Arc.{arc_value}
use Rattle.std.specs.Prelude.{drop, map, option_map, reverse, take}

-- some place: the beginning of a page's run stands at none
no_place : Place
no_place = record { file = []; byte = 0; line = 0; column = 0 }

-- the run of a code

pub turn::run_code-loop-op-init : goal.turn::run_code-loop-op-init
turn::run_code-loop-op-init g t c = record {
  left = ap (λ o. o.left) c.fresh-opened.ensures;
  covered = c.requires.covered;
  known = c.requires.known;
  records = c.requires.records;
  holds = c.requires.holds;
  standing = standing_start (seat_of c.args.start.seat.now) c.args.start.pc c.args.start.left (g.W.World.kept c.args.world.now) (open_of c.fresh-opened.result) c.requires.at c.fresh-opened.ensures;
  so_far = record {
    by = λ serving serves first origin s stands.
        so_far_start serving (seat_of c.args.start.seat.now) c.args.start.pc c.args.start.left s (g.W.World.reached first origin c.args.world.now) (g.W.World.replies c.args.world.now) (open_of c.fresh-opened.result) c.fresh-opened.ensures stands;
  };
}

pub turn::run_code-cell_of-cell-requires : goal.turn::run_code-cell_of-cell-requires
turn::run_code-cell_of-cell-requires g t c =
    let seat = seat_of c.args.start.seat.now in
    let there = within_code seat c.loop-op.pc (g.W.World.kept c.loop-op.world) (open_of c.loop-op.opened) c.loop-op.invariant.standing in
    record { within = subst (λ (cells : List Cell). c.loop-op.pc < length cells) (sym c.code-code.ensures) there }

pub turn::run_code-turn-requires : goal.turn::run_code-turn-requires
turn::run_code-turn-requires g t c κs within =
    let seat = seat_of c.args.start.seat.now in
    let inv = c.loop-op.invariant in
    let left : c.loop-op.opened.left ≡ c.args.start.left = inv.left in
    let cell = made_cell c.cell_of-cell.ensures.cell.shape c.cell_of-cell.result.place c.cell_of-cell.result.instr.now in
    let here : IsCellAt (code_of seat) c.loop-op.pc c.cell_of-cell.result.instr.now c.cell_of-cell.result.place = record {
      shape = c.cell_of-cell.ensures.cell.shape;
      there = cell_at (code_of seat) c.code-code.result.now c.loop-op.pc cell c.code-code.ensures c.cell_of-cell.ensures.cell.there;
    } in
    let counted : length (code_of seat) < 2 ^ 64 = subst (λ (cells : List Cell). length cells < 2 ^ 64) c.code-code.ensures c.cell_of-cell.ensures.counted in
    search rules

pub turn::run_code-loop-op-preserved-in-Go : goal.turn::run_code-loop-op-preserved-in-Go
turn::run_code-loop-op-preserved-in-Go g t c =
    let seat = seat_of c.args.start.seat.now in
    let o = open_of c.loop-op.opened in
    let o2 = open_of c.turn.new.opened in
    let inv = c.loop-op.invariant in
    let laws = g.met.W.World in
    let kept = behind_turn laws.stores_on laws.again laws.tells c.args.served.now seat c.requires.seat c.loop-op.pc c.in-Go.to o o2 c.loop-op.world c.turn.new.world inv.known c.in-Go.ensures.stepped
    c.args.start.pc c.args.start.left c.args.world.now c.requires.known inv.holds inv.standing inv.so_far in
    record {
      left = c.turn.ensures.left ∙ inv.left;
      covered = c.turn.ensures.covered;
      records = c.turn.ensures.records;
      known = kept.0;
      holds = kept.1;
      standing = kept.2;
      so_far = kept.3;
    }

pub turn::run_code-loop-op-smaller-in-Go : goal.turn::run_code-loop-op-smaller-in-Go
turn::run_code-loop-op-smaller-in-Go g t c =
    let laws = g.met.W.World in
    loop_nearer laws.stores_on laws.again laws.tells c.args.served.now (seat_of c.args.start.seat.now) c.requires.seat c.loop-op.pc c.in-Go.to (open_of c.loop-op.opened) (open_of c.turn.new.opened) c.loop-op.world
    c.turn.new.world c.loop-op.invariant.known c.in-Go.ensures.stepped c.loop-op.invariant.standing

pub turn::run_code-returns-in-Over-clause-ran : goal.turn::run_code-returns-in-Over-clause-ran
turn::run_code-returns-in-Over-clause-ran g t c =
    let laws = g.met.W.World in
    over_with laws.stores_on laws.again c.args.served.now (seat_of c.args.start.seat.now) c.args.start.pc c.args.start.left c.args.world.now c.loop-op.world c.loop-op.pc (open_of c.loop-op.opened) c.requires.known
    c.loop-op.invariant.so_far c.turn.new.world (open_of c.turn.new.opened) c.in-Over.end c.in-Over.ensures.stepped

-- a frequent operation of it

pub turn::run_code-quick-requires : goal.turn::run_code-quick-requires
turn::run_code-quick-requires g t c =
    let seat = seat_of c.args.start.seat.now in
    let o = open_of c.loop-op.opened in
    let cell = made_cell c.cell_of-cell.ensures.cell.shape c.cell_of-cell.result.place c.cell_of-cell.result.instr.now in
    let here = cell_at (code_of seat) c.code-code.result.now c.loop-op.pc cell c.code-code.ensures c.cell_of-cell.ensures.cell.there in
    let inv = c.loop-op.invariant in
    let finds = subst (Finds (length (code_of seat)) c.loop-op.pc (g.W.World.kept c.loop-op.world) o) c.in-Some.ensures.0
    (finds_at g.met.W.World.tells c.args.served.now seat c.requires.seat c.loop-op.pc o c.loop-op.world inv.known inv.standing cell here) in
    record { covered = inv.covered; filled = finds.0; quick = c.in-Some.ensures.1 }

pub turn::run_code-loop-op-preserved-in-Ok : goal.turn::run_code-loop-op-preserved-in-Ok
turn::run_code-loop-op-preserved-in-Ok g t c =
    let seat = seat_of c.args.start.seat.now in
    let o = open_of c.loop-op.opened in
    let o2 = open_of c.quick.new.opened in
    let cell = made_cell c.cell_of-cell.ensures.cell.shape c.cell_of-cell.result.place c.cell_of-cell.result.instr.now in
    let here = cell_at (code_of seat) c.code-code.result.now c.loop-op.pc cell c.code-code.ensures c.cell_of-cell.ensures.cell.there in
    let inv = c.loop-op.invariant in
    let laws = g.met.W.World in
    let kept = behind_turn laws.stores_on laws.again laws.tells c.args.served.now seat c.requires.seat c.loop-op.pc (c.loop-op.pc + 1) o o2 c.loop-op.world c.quick.new.world inv.known
    (went_on seat c.loop-op.pc o cell c.in-Some.op.now here c.in-Some.ensures.0 c.loop-op.world c.quick.new.world o2 tt c.in-Ok.ensures.lands)
    c.args.start.pc c.args.start.left c.args.world.now c.requires.known inv.holds inv.standing inv.so_far in
    record {
      left = c.quick.ensures.left ∙ inv.left;
      covered = c.quick.ensures.covered;
      records = inv.records;
      known = kept.0;
      holds = kept.1;
      standing = kept.2;
      so_far = kept.3;
    }

pub turn::run_code-loop-op-smaller-in-Ok : goal.turn::run_code-loop-op-smaller-in-Ok
turn::run_code-loop-op-smaller-in-Ok g t c =
    let seat = seat_of c.args.start.seat.now in
    let o = open_of c.loop-op.opened in
    let o2 = open_of c.quick.new.opened in
    let cell = made_cell c.cell_of-cell.ensures.cell.shape c.cell_of-cell.result.place c.cell_of-cell.result.instr.now in
    let here = cell_at (code_of seat) c.code-code.result.now c.loop-op.pc cell c.code-code.ensures c.cell_of-cell.ensures.cell.there in
    let inv = c.loop-op.invariant in
    let laws = g.met.W.World in
    loop_nearer laws.stores_on laws.again laws.tells c.args.served.now seat c.requires.seat c.loop-op.pc (c.loop-op.pc + 1) o o2 c.loop-op.world c.quick.new.world inv.known
    (went_on seat c.loop-op.pc o cell c.in-Some.op.now here c.in-Some.ensures.0 c.loop-op.world c.quick.new.world o2 tt c.in-Ok.ensures.lands) inv.standing

pub turn::run_code-loop-op-preserved : goal.turn::run_code-loop-op-preserved
turn::run_code-loop-op-preserved g t c =
    let seat = seat_of c.args.start.seat.now in
    let o = open_of c.loop-op.opened in
    let mid = open_of c.quick.new.opened in
    let o2 = open_of c.fail.new.opened in
    let to = c.in-Go-fail.to in
    let cell = made_cell c.cell_of-cell.ensures.cell.shape c.cell_of-cell.result.place c.cell_of-cell.result.instr.now in
    let here = cell_at (code_of seat) c.code-code.result.now c.loop-op.pc cell c.code-code.ensures c.cell_of-cell.ensures.cell.there in
    let inv = c.loop-op.invariant in
    let laws = g.met.W.World in
    let kept = behind_turn laws.stores_on laws.again laws.tells c.args.served.now seat c.requires.seat c.loop-op.pc to o o2 c.loop-op.world c.fail.new.world inv.known
    (fell_off seat c.loop-op.pc o cell c.in-Some.op.now here c.in-Some.ensures.0 c.loop-op.world c.quick.new.world mid c.in-Err.failed c.fail.new.world o2 (flows.Go to) c.in-Err.ensures.lands
    c.in-Go-fail.ensures.acted c.in-Go-fail.ensures.short)
    c.args.start.pc c.args.start.left c.args.world.now c.requires.known inv.holds inv.standing inv.so_far in
    record {
      left = c.fail.ensures.left ∙ c.quick.ensures.left ∙ inv.left;
      covered = c.fail.ensures.covered;
      records = inv.records;
      known = kept.0;
      holds = kept.1;
      standing = kept.2;
      so_far = kept.3;
    }

pub turn::run_code-loop-op-smaller : goal.turn::run_code-loop-op-smaller
turn::run_code-loop-op-smaller g t c =
    let seat = seat_of c.args.start.seat.now in
    let o = open_of c.loop-op.opened in
    let mid = open_of c.quick.new.opened in
    let o2 = open_of c.fail.new.opened in
    let to = c.in-Go-fail.to in
    let cell = made_cell c.cell_of-cell.ensures.cell.shape c.cell_of-cell.result.place c.cell_of-cell.result.instr.now in
    let here = cell_at (code_of seat) c.code-code.result.now c.loop-op.pc cell c.code-code.ensures c.cell_of-cell.ensures.cell.there in
    let inv = c.loop-op.invariant in
    let laws = g.met.W.World in
    loop_nearer laws.stores_on laws.again laws.tells c.args.served.now seat c.requires.seat c.loop-op.pc to o o2 c.loop-op.world c.fail.new.world inv.known
    (fell_off seat c.loop-op.pc o cell c.in-Some.op.now here c.in-Some.ensures.0 c.loop-op.world c.quick.new.world mid c.in-Err.failed c.fail.new.world o2 (flows.Go to) c.in-Err.ensures.lands
    c.in-Go-fail.ensures.acted c.in-Go-fail.ensures.short) inv.standing

pub turn::run_code-returns-in-Over-fail-clause-ran : goal.turn::run_code-returns-in-Over-fail-clause-ran
turn::run_code-returns-in-Over-fail-clause-ran g t c =
    let seat = seat_of c.args.start.seat.now in
    let o = open_of c.loop-op.opened in
    let mid = open_of c.quick.new.opened in
    let o2 = open_of c.fail.new.opened in
    let end = c.in-Over-fail.end in
    let cell = made_cell c.cell_of-cell.ensures.cell.shape c.cell_of-cell.result.place c.cell_of-cell.result.instr.now in
    let here = cell_at (code_of seat) c.code-code.result.now c.loop-op.pc cell c.code-code.ensures c.cell_of-cell.ensures.cell.there in
    let laws = g.met.W.World in
    over_with laws.stores_on laws.again c.args.served.now seat c.args.start.pc c.args.start.left c.args.world.now c.loop-op.world c.loop-op.pc o c.requires.known c.loop-op.invariant.so_far c.fail.new.world o2 end
    (fell_off seat c.loop-op.pc o cell c.in-Some.op.now here c.in-Some.ensures.0 c.loop-op.world c.quick.new.world mid c.in-Err.failed c.fail.new.world o2 (flows.Over end) c.in-Err.ensures.lands
    c.in-Over-fail.ensures.acted c.in-Over-fail.ensures.short)

-- a turn

pub turn::turn-call_out-requires : goal.turn::turn-call_out-requires
turn::turn-call_out-requires g t c κs within =
    let seat = seat_at c.args.at.now in
    let o = open_of c.args.opened.now in
    let cell = made_cell c.requires.cell.shape c.args.at.now.cell.place c.args.at.now.cell.instr.now in
    let begins = begins_at seat c.requires.seat c.args.at.now.pc cell c.in-CallOut.what c.requires.cell.there c.in-CallOut.is in
    let finds = subst (Finds (length (code_of seat)) c.args.at.now.pc (g.W.World.kept c.args.world.now) o) c.in-CallOut.is
    (finds_at g.met.W.World.tells c.args.at.now.served.now seat c.requires.seat c.args.at.now.pc o c.args.world.now c.requires.known c.requires.standing cell c.requires.cell.there) in
    search rules

pub turn::turn-returns-in-CallOut-clause-stepped : goal.turn::turn-returns-in-CallOut-clause-stepped
turn::turn-returns-in-CallOut-clause-stepped g t c =
    let seat = seat_at c.args.at.now in
    let o = open_of c.args.opened.now in
    let cell = made_cell c.requires.cell.shape c.args.at.now.cell.place c.args.at.now.cell.instr.now in
    stepped_as seat (λ serving s. move_of serving seat c.args.at.now.pc s o) (λ serving s. called_out serving seat cell.place (c.args.at.now.pc + 1) c.in-CallOut.what s o) c.args.world.now c.call_out.new.world
    (open_of c.call_out.new.opened) c.call_out.result (λ serving h s. move_is serving seat c.args.at.now.pc s o cell (instr.CallOut c.in-CallOut.what) c.requires.cell.there c.in-CallOut.is) c.call_out.ensures.stepped

pub turn::turn-step_alone-requires : goal.turn::turn-step_alone-requires
turn::turn-step_alone-requires g t c =
    let seat = seat_at c.args.at.now in
    let o = open_of c.args.opened.now in
    let cell = made_cell c.requires.cell.shape c.args.at.now.cell.place c.args.at.now.cell.instr.now in
    let finds = finds_at g.met.W.World.tells c.args.at.now.served.now seat c.requires.seat c.args.at.now.pc o c.args.world.now c.requires.known c.requires.standing cell c.requires.cell.there in
    let simple = simple_of cell.instr c.in_default.not-CallOut in
    search rules

pub turn::turn-returns-in_default-clause-stepped : goal.turn::turn-returns-in_default-clause-stepped
turn::turn-returns-in_default-clause-stepped g t c =
    let seat = seat_at c.args.at.now in
    let o = open_of c.args.opened.now in
    let cell = made_cell c.requires.cell.shape c.args.at.now.cell.place c.args.at.now.cell.instr.now in
    acted_stepped seat (λ serving s. move_of serving seat c.args.at.now.pc s o) c.args.world.now c.step_alone.new.world (open_of c.step_alone.new.opened) c.step_alone.result
    (λ serving h.
    acted_as (λ s. move_of serving seat c.args.at.now.pc s o) (λ s. act serving seat cell.place c.args.at.now.pc s o cell.instr) c.args.world.now c.step_alone.new.world (open_of c.step_alone.new.opened) c.step_alone.result
    (λ s. move_is serving seat c.args.at.now.pc s o cell cell.instr c.requires.cell.there refl) (c.step_alone.ensures.acted.for serving h))

-- a call

pub turn::call_out-tag_call-requires : goal.turn::call_out-tag_call-requires
turn::call_out-tag_call-requires g t c κs within =
    let is : c.args.what.now ≡ call.Tag c.get.result.now = rw (c.in-Tag.is, c.get.ensures) refl in
    let begins = subst (CallBegins (code_of (seat_at c.args.at.now)) (c.args.at.now.pc + 1)) is c.requires.begins in
    let finds = subst (CallFinds (length (code_of (seat_at c.args.at.now))) (c.args.at.now.pc + 1) (open_of c.args.opened.now)) is c.requires.finds in
    search rules

pub turn::call_out-returns-in-Tag-clause-stepped : goal.turn::call_out-returns-in-Tag-clause-stepped
turn::call_out-returns-in-Tag-clause-stepped g t c =
    call_as (seat_at c.args.at.now) c.args.at.now.cell.place (c.args.at.now.pc + 1) (open_of c.args.opened.now) c.args.what.now (call.Tag c.get.result.now) c.args.world.now c.tag_call.new.world (open_of c.tag_call.new.opened) c.tag_call.result
    (rw (c.in-Tag.is, c.get.ensures) refl) c.tag_call.ensures.stepped

pub turn::call_out-returns-in-Body-clause-stepped : goal.turn::call_out-returns-in-Body-clause-stepped
turn::call_out-returns-in-Body-clause-stepped g t c =
    call_as (seat_at c.args.at.now) c.args.at.now.cell.place (c.args.at.now.pc + 1) (open_of c.args.opened.now) c.args.what.now call.Body c.args.world.now c.given_call.new.world (open_of c.given_call.new.opened) c.given_call.result c.in-Body.is
    c.given_call.ensures.stepped

pub turn::call_out-returns-in-Fragment-clause-stepped : goal.turn::call_out-returns-in-Fragment-clause-stepped
turn::call_out-returns-in-Fragment-clause-stepped g t c =
    call_as (seat_at c.args.at.now) c.args.at.now.cell.place (c.args.at.now.pc + 1) (open_of c.args.opened.now) c.args.what.now (call.Fragment c.in-Fragment.name) c.args.world.now c.given_call-in-Fragment.new.world
    (open_of c.given_call-in-Fragment.new.opened) c.given_call-in-Fragment.result c.in-Fragment.is c.given_call-in-Fragment.ensures.stepped

pub turn::call_out-returns-in-Include-clause-stepped : goal.turn::call_out-returns-in-Include-clause-stepped
turn::call_out-returns-in-Include-clause-stepped g t c =
    call_as (seat_at c.args.at.now) c.args.at.now.cell.place (c.args.at.now.pc + 1) (open_of c.args.opened.now) c.args.what.now (call.Include c.in-Include.flush c.in-Include.params) c.args.world.now c.include_call.new.world
    (open_of c.include_call.new.opened) c.include_call.result c.in-Include.is c.include_call.ensures.stepped

pub turn::call_out-returns-in-Import-clause-stepped : goal.turn::call_out-returns-in-Import-clause-stepped
turn::call_out-returns-in-Import-clause-stepped g t c =
    call_as (seat_at c.args.at.now) c.args.at.now.cell.place (c.args.at.now.pc + 1) (open_of c.args.opened.now) c.args.what.now call.Import c.args.world.now c.import_call.new.world (open_of c.import_call.new.opened) c.import_call.result
    c.in-Import.is c.import_call.ensures.stepped

-- the run of a page

pub pages::enter_page-returns-in_default-clause-ran : goal.pages::enter_page-returns-in_default-clause-ran
pages::enter_page-returns-in_default-clause-ran g t c =
    page_failed no_place (program_of c.args.start.program.now) (params_of c.args.start.params.now) c.args.start.left c.args.world.now c.make_session.new.world c.in_default.field-0 c.in_default.ensures.does

pub pages::enter_page-run_code-requires : goal.pages::enter_page-run_code-requires
pages::enter_page-run_code-requires g t c κs within =
    let known = known_done g.met.W.World.stores_on g.met.W.World.again c.args.served.now c.args.world.now c.make_session.new.world (Ok tt) c.requires.known c.in-Ok.ensures.does in
    let tags = subst (λ xs. TagsFit (map tag_of xs)) c.as_slice.ensures c.know_tags.ensures in
    let fits = c.code.ensures.fits in
    let first = fits.0 in
    let records = c.requires.records in
    search rules

pub pages::enter_page-returns-clause-ran : goal.pages::enter_page-returns-clause-ran
pages::enter_page-returns-clause-ran g t c =
    ran_page no_place (program_of c.args.start.program.now) (params_of c.args.start.params.now) c.args.start.left c.args.world.now c.make_session.new.world c.run_code.new.world c.run_code.result c.in-Ok.ensures.does
    (λ serving h. serves_done g.met.W.World.stores_on g.met.W.World.again c.args.served.now c.args.world.now c.make_session.new.world (Ok tt) serving c.requires.known c.in-Ok.ensures.does h) c.run_code.ensures.ran

-- an included page

pub pages::included_page-returns-in_default-clause-stepped : goal.pages::included_page-returns-in_default-clause-stepped
pages::included_page-returns-in_default-clause-stepped g t c =
    let seat = seat_at c.args.at.now in
    let o = open_of c.args.opened.now in
    let program = program_of c.args.start.program.now in
    acted_stepped seat (λ serving s. included_run c.args.at.now.cell.place program (params_of c.args.start.params.now) c.args.start.left (c.args.at.now.pc + 1) s o) c.args.world.now c.push_frame.new.world o (flows.Over ends.NoMemory)
    (λ serving h.
    acted_spent (λ s. included_run c.args.at.now.cell.place program (params_of c.args.start.params.now) c.args.start.left (c.args.at.now.pc + 1) s o) c.args.world.now c.push_frame.new.world o
    (λ s. included_run_grows c.args.at.now.cell.place program (params_of c.args.start.params.now) c.args.start.left (c.args.at.now.pc + 1) s o) c.in_default.ensures.err c.push_frame.ensures.replies)

pub pages::included_page-enter_page-requires : goal.pages::included_page-enter_page-requires
pages::included_page-enter_page-requires g t c κs within =
    let laws = g.met.W.World in
    let counted = counted_so (g.W.World.variables c.args.world.now) c.scopes.result.now c.frames-frames.result c.scopes.ensures c.frames-frames.ensures in
    let known = included_known g.W.World.replies laws.stores_on laws.again laws.tells c.args.at.now.served.now (program_of c.args.start.program.now) (params_of c.args.start.params.now) c.args.start.left c.frame-frame.result c.frames-frames.result c.args.world.now c.push_frame.new.world c.args.world.now
    c.requires.known c.in-Ok.ensures.ok c.push_frame.ensures.replies c.frame-frame.ensures.current counted in
    search rules

pub pages::included_page-go_back-requires : goal.pages::included_page-go_back-requires
pages::included_page-go_back-requires g t c =
    let laws = g.met.W.World in
    let counted = counted_so (g.W.World.variables c.args.world.now) c.scopes.result.now c.frames-frames.result c.scopes.ensures c.frames-frames.ensures in
    let room = included_room g.W.World.replies laws.stores_on laws.again laws.tells c.args.at.now.served.now (program_of c.args.start.program.now) (params_of c.args.start.params.now) c.args.start.left c.frame-frame.result c.frames-frames.result c.args.world.now c.push_frame.new.world c.enter_page.new.world
    c.requires.known c.in-Ok.ensures.ok c.push_frame.ensures.replies c.frame-frame.ensures.current counted ends.Normal (λ x. Well tt x) normal_is (λ n t h. h) c.in-Normal.ensures.ran in
    let there : c.frame-frame.result < c.frames-frames.result = omega (arith, c.frame-frame.ensures.there, counted) in
    search rules

pub pages::included_page-go_back-requires-in-Raised : goal.pages::included_page-go_back-requires-in-Raised
pages::included_page-go_back-requires-in-Raised g t c =
    let laws = g.met.W.World in
    let counted = counted_so (g.W.World.variables c.args.world.now) c.scopes.result.now c.frames-frames.result c.scopes.ensures c.frames-frames.ensures in
    let room = included_room g.W.World.replies laws.stores_on laws.again laws.tells c.args.at.now.served.now (program_of c.args.start.program.now) (params_of c.args.start.params.now) c.args.start.left c.frame-frame.result c.frames-frames.result c.args.world.now c.push_frame.new.world c.enter_page.new.world
    c.requires.known c.in-Ok.ensures.ok c.push_frame.ensures.replies c.frame-frame.ensures.current counted (ends.Raised c.in-Raised.fault c.in-Raised.place) (λ x. Raised c.in-Raised.fault c.in-Raised.place x) (raised_is c.in-Raised.fault c.in-Raised.place) (λ n t h. h) c.in-Raised.ensures.ran in
    let there : c.frame-frame.result < c.frames-frames.result = omega (arith, c.frame-frame.ensures.there, counted) in
    search rules

pub pages::included_page-go_back-requires-in-Redirect : goal.pages::included_page-go_back-requires-in-Redirect
pages::included_page-go_back-requires-in-Redirect g t c =
    let laws = g.met.W.World in
    let counted = counted_so (g.W.World.variables c.args.world.now) c.scopes.result.now c.frames-frames.result c.scopes.ensures c.frames-frames.ensures in
    let room = included_left g.W.World.replies laws.stores_on laws.again laws.tells c.args.at.now.served.now (program_of c.args.start.program.now) (params_of c.args.start.params.now) c.args.start.left c.frame-frame.result c.frames-frames.result c.args.world.now c.push_frame.new.world c.enter_page.new.world
    c.requires.known c.in-Ok.ensures.ok c.push_frame.ensures.replies c.frame-frame.ensures.current counted c.in-Redirect.field-0 c.bodies-bodies.result c.drop_bodies.new.world c.in-Redirect.ensures.ran c.drop_bodies.ensures.left in
    let there : c.frame-frame.result < c.frames-frames.result = omega (arith, c.frame-frame.ensures.there, counted) in
    search rules

pub pages::included_page-returns-in-Normal-clause-stepped : goal.pages::included_page-returns-in-Normal-clause-stepped
pages::included_page-returns-in-Normal-clause-stepped g t c =
    let laws = g.met.W.World in
    let counted = counted_so (g.W.World.variables c.args.world.now) c.scopes.result.now c.frames-frames.result c.scopes.ensures c.frames-frames.ensures in
    let seat = seat_at c.args.at.now in
    included_on g.W.World.replies laws.stores_on laws.again laws.tells c.args.at.now.served.now (program_of c.args.start.program.now) (params_of c.args.start.params.now) c.args.start.left c.frame-frame.result c.frames-frames.result c.args.world.now c.push_frame.new.world c.enter_page.new.world
    c.requires.known c.in-Ok.ensures.ok c.push_frame.ensures.replies c.frame-frame.ensures.current counted c.args.at.now.cell.place (c.args.at.now.pc + 1) (open_of c.args.opened.now) seat
    c.go_back.new.world c.in-Normal.ensures.ran c.go_back.ensures.back c.go_back.ensures.replies

pub pages::included_page-returns-in-Raised-clause-stepped : goal.pages::included_page-returns-in-Raised-clause-stepped
pages::included_page-returns-in-Raised-clause-stepped g t c =
    let laws = g.met.W.World in
    let counted = counted_so (g.W.World.variables c.args.world.now) c.scopes.result.now c.frames-frames.result c.scopes.ensures c.frames-frames.ensures in
    let seat = seat_at c.args.at.now in
    included_thrown g.W.World.replies laws.stores_on laws.again laws.tells c.args.at.now.served.now (program_of c.args.start.program.now) (params_of c.args.start.params.now) c.args.start.left c.frame-frame.result c.frames-frames.result c.args.world.now c.push_frame.new.world c.enter_page.new.world
    c.requires.known c.in-Ok.ensures.ok c.push_frame.ensures.replies c.frame-frame.ensures.current counted c.args.at.now.cell.place (c.args.at.now.pc + 1) (open_of c.args.opened.now) seat
    c.in-Raised.fault c.in-Raised.place c.go_back-in-Raised.new.world c.throw.new.world (open_of c.throw.new.opened) c.throw.result c.in-Raised.ensures.ran c.go_back-in-Raised.ensures.back c.go_back-in-Raised.ensures.replies
    c.throw.ensures.acted

pub pages::included_page-returns-in-Redirect-clause-stepped : goal.pages::included_page-returns-in-Redirect-clause-stepped
pages::included_page-returns-in-Redirect-clause-stepped g t c =
    let laws = g.met.W.World in
    let counted = counted_so (g.W.World.variables c.args.world.now) c.scopes.result.now c.frames-frames.result c.scopes.ensures c.frames-frames.ensures in
    let seat = seat_at c.args.at.now in
    included_redirected g.W.World.replies laws.stores_on laws.again laws.tells c.args.at.now.served.now (program_of c.args.start.program.now) (params_of c.args.start.params.now) c.args.start.left c.frame-frame.result c.frames-frames.result c.args.world.now c.push_frame.new.world c.enter_page.new.world
    c.requires.known c.in-Ok.ensures.ok c.push_frame.ensures.replies c.frame-frame.ensures.current counted c.args.at.now.cell.place (c.args.at.now.pc + 1) (open_of c.args.opened.now) seat
    c.in-Redirect.field-0 c.bodies-bodies.result c.drop_bodies.new.world c.go_back-in-Redirect.new.world c.bodies-bodies.ensures c.in-Redirect.ensures.ran c.drop_bodies.ensures.left c.drop_bodies.ensures.replies
    c.go_back-in-Redirect.ensures.back c.go_back-in-Redirect.ensures.replies

pub pages::included_page-returns-in_default-enter_page-clause-stepped : goal.pages::included_page-returns-in_default-enter_page-clause-stepped
pages::included_page-returns-in_default-enter_page-clause-stepped g t c =
    let laws = g.met.W.World in
    let counted = counted_so (g.W.World.variables c.args.world.now) c.scopes.result.now c.frames-frames.result c.scopes.ensures c.frames-frames.ensures in
    let seat = seat_at c.args.at.now in
    included_over g.W.World.replies laws.stores_on laws.again laws.tells c.args.at.now.served.now (program_of c.args.start.program.now) (params_of c.args.start.params.now) c.args.start.left c.frame-frame.result c.frames-frames.result c.args.world.now c.push_frame.new.world c.enter_page.new.world
    c.requires.known c.in-Ok.ensures.ok c.push_frame.ensures.replies c.frame-frame.ensures.current counted c.args.at.now.cell.place (c.args.at.now.pc + 1) (open_of c.args.opened.now) seat
    c.enter_page.result (λ l e. c.in_default-enter_page.not-Redirect l e) (λ e. c.in_default-enter_page.not-Normal e) (λ f p e. c.in_default-enter_page.not-Raised f p e) c.enter_page.ensures.ran

-- an included page with the parameters of a target

pub pages::include_page-included_page-requires : goal.pages::include_page-included_page-requires
pages::include_page-included_page-requires g t c κs within =
    let records = subst (λ ps. IsRecordsOf c.args.at.now.served.now.request.now ps c.args.records.now) (sym c.params.ensures.found) c.requires.records in
    search rules

pub pages::include_page-included_page-flow-requires : goal.pages::include_page-included_page-flow-requires
pages::include_page-included_page-flow-requires g t c κs within =
    let request = c.args.at.now.served.now.request.now in
    let records = c.in-Ok.ensures.ok request c.as_slice.result c.params-around.result (subst (λ ps. IsRecordsOf request ps c.args.records.now) (sym c.params-around.ensures.found) c.requires.records) in
    search rules

pub pages::include_page-returns-in-Same-clause-records : goal.pages::include_page-returns-in-Same-clause-records
pages::include_page-returns-in-Same-clause-records g t c =
    subst (λ ps. IsRecordsOf c.args.at.now.served.now.request.now ps c.included_page.new.records) c.params.ensures.found c.included_page.ensures.records

pub pages::include_page-returns-in-Same-clause-stepped : goal.pages::include_page-returns-in-Same-clause-stepped
pages::include_page-returns-in-Same-clause-stepped g t c =
    let seat = seat_at c.args.at.now in
    let o = open_of c.args.opened.now in
    with_params seat c.args.at.now.cell.place (program_of (arc_value c.args.page.now.program)) (program_of c.deref-program.result.now) (ap program_of c.deref-program.ensures) c.args.page.now.left (c.args.at.now.pc + 1) o (params_for (page_run_of seat) c.args.page.now.params) (params_of c.params.result.now)
    (rw (c.in-Same.is, c.params.ensures.list) refl) c.args.world.now c.included_page.new.world (open_of c.included_page.new.opened) c.included_page.result c.included_page.ensures.stepped

pub pages::include_page-returns-in_default-clause-records : goal.pages::include_page-returns-in_default-clause-records
pages::include_page-returns-in_default-clause-records g t c = subst (IsRecordsAt c.args.at.now) (sym c.in_default.ensures.err) c.requires.records

pub pages::include_page-returns-in_default-clause-stepped : goal.pages::include_page-returns-in_default-clause-stepped
pages::include_page-returns-in_default-clause-stepped g t c =
    let seat = seat_at c.args.at.now in
    let o = open_of c.args.opened.now in
    let program = program_of (arc_value c.args.page.now.program) in
    let params = params_for (page_run_of seat) c.args.page.now.params in
    acted_stepped seat (λ serving s. included_run c.args.at.now.cell.place program params c.args.page.now.left (c.args.at.now.pc + 1) s o) c.args.world.now c.args.world.now o (flows.Over ends.NoMemory)
    (λ serving h.
    acted_short (λ s. included_run c.args.at.now.cell.place program params c.args.page.now.left (c.args.at.now.pc + 1) s o) c.args.world.now o
    (λ s. included_run_grows c.args.at.now.cell.place program params c.args.page.now.left (c.args.at.now.pc + 1) s o))

pub pages::include_page-returns-in-Ok-clause-records : goal.pages::include_page-returns-in-Ok-clause-records
pages::include_page-returns-in-Ok-clause-records g t c =
    let request = c.args.at.now.served.now.request.now in
    subst (λ ps. IsRecordsOf request ps c.put_params_back.new.self) c.params-around.ensures.found
    (c.put_params_back.ensures request c.as_slice.result c.params-around.result c.included_page-flow.ensures.records)

pub pages::include_page-returns-in-Ok-clause-stepped : goal.pages::include_page-returns-in-Ok-clause-stepped
pages::include_page-returns-in-Ok-clause-stepped g t c =
    let seat = seat_at c.args.at.now in
    let o = open_of c.args.opened.now in
    with_params seat c.args.at.now.cell.place (program_of (arc_value c.args.page.now.program)) (program_of c.deref-program.result.now) (ap program_of c.deref-program.ensures) c.args.page.now.left (c.args.at.now.pc + 1) o (params_for (page_run_of seat) c.args.page.now.params) (c.as_slice.result.now ++ params_of c.params-around.result.now)
    (rw (c.in-Own.is, c.as_slice.ensures, c.params-around.ensures.list) refl) c.args.world.now c.included_page-flow.new.world (open_of c.included_page-flow.new.opened) c.included_page-flow.result c.included_page-flow.ensures.stepped

-- an include of a target

pub pages::include-include_page-requires : goal.pages::include-include_page-requires
pages::include-include_page-requires g t c κs within =
    let found = c.in-Page.ensures.page in
    let known = found.known in
    let deeper = found.deeper in
    search rules

pub pages::include-returns-in-Page-clause-stepped : goal.pages::include-returns-in-Page-clause-stepped
pages::include-returns-in-Page-clause-stepped g t c =
    c.in-Page.ensures.page.on c.include_page.new.world (open_of c.include_page.new.opened) c.include_page.result c.include_page.ensures.stepped

pub pages::include-returns-in-Page-clause-short : goal.pages::include-returns-in-Page-clause-short
pages::include-returns-in-Page-clause-short g t c short = absurd (cc (c.in-Page.ensures.short short).0)

-- an include by an address

pub pages::include_call-returns-in_default-clause-stepped : goal.pages::include_call-returns-in_default-clause-stepped
pages::include_call-returns-in_default-clause-stepped g t c =
    let o = open_of c.args.opened.now in
    include_unflushed c.args.at.now.cell.place (c.args.at.now.pc + 1) (seat_at c.args.at.now) o (with_stack (drop (address_with c.args.params) o.stack) o) (reverse (take (address_with c.args.params) o.stack)) c.args.flush c.args.params
    c.requires.filled refl refl c.args.world.now c.flush_if.new.world o c.in_default.ensures.err c.flush_if.ensures.replies

pub pages::include_call-include-requires : goal.pages::include_call-include-requires
pages::include_call-include-requires g t c κs within =
    let known = known_changed g.met.W.World.stores_on g.met.W.World.again c.args.at.now.served.now c.args.world.now c.flush_if.new.world (flush_if c.args.flush) c.requires.known c.in-Ok.ensures.ok in
    search rules

pub pages::include_call-returns-clause-stepped : goal.pages::include_call-returns-clause-stepped
pages::include_call-returns-clause-stepped g t c =
    let o = open_of c.args.opened.now in
    include_stepped c.args.at.now.cell.place (c.args.at.now.pc + 1) (seat_at c.args.at.now) o (with_stack c.drop_top.new.self o) (map datum_of c.top.result.now) c.args.flush c.args.params c.requires.filled
    (ap (λ xs. with_stack xs o) c.drop_top.ensures) c.top.ensures c.args.world.now c.flush_if.new.world c.include.new.world c.find_target-found.result (open_of c.include.new.opened) c.include.result c.find_target-found.ensures
    c.in-Ok.ensures.ok c.flush_if.ensures.replies
    (λ serving h. serves_changed g.met.W.World.stores_on g.met.W.World.again c.args.at.now.served.now c.args.world.now c.flush_if.new.world (flush_if c.args.flush) serving c.requires.known c.in-Ok.ensures.ok h)
    c.include.ensures.stepped c.include.ensures.short

-- an import

pub pages::import_call-returns-clause-stepped : goal.pages::import_call-returns-clause-stepped
pages::import_call-returns-clause-stepped g t c =
    let o = open_of c.args.opened.now in
    import_stepped c.args.at.now.cell.place (c.args.at.now.pc + 1) (seat_at c.args.at.now) o (with_stack c.drop_top.new.self o) (map datum_of c.top.result.now) c.requires.filled (ap (λ xs. with_stack xs o) c.drop_top.ensures) c.top.ensures
    c.args.world.now c.include.new.world c.import_target-found.result (open_of c.include.new.opened) c.include.result c.import_target-found.ensures c.include.ensures.stepped c.include.ensures.short

-- a body or a fragment that a call gives

pub calls::given_call-given-requires : goal.calls::given_call-given-requires
calls::given_call-given-requires g t c =
    let holds = subst (λ x. SeatHolds x (length (g.W.World.variables c.args.world.now).frames)) (ap seat_of c.in-InTag.is) c.requires.holds in
    record { within = holds.1 }

pub calls::given_call-write_source-requires : goal.calls::given_call-write_source-requires
calls::given_call-write_source-requires g t c =
    let holds = subst (λ x. SeatHolds x (length (g.W.World.variables c.args.world.now).frames)) (ap seat_of c.in-InTag.is) c.requires.holds in
    let there = holds.0 in
    search rules

pub calls::given_call-copy_out-requires : goal.calls::given_call-copy_out-requires
calls::given_call-copy_out-requires g t c =
    let holds = subst (λ x. SeatHolds x (length (g.W.World.variables c.args.world.now).frames)) (ap seat_of c.in-InTag.is) c.requires.holds in
    let there = holds.0 in
    search rules

pub calls::given_call-turn_to-requires : goal.calls::given_call-turn_to-requires
calls::given_call-turn_to-requires g t c =
    let holds = subst (λ x. SeatHolds x (length (g.W.World.variables c.args.world.now).frames)) (ap seat_of c.in-InTag.is) c.requires.holds in
    let there : c.in-InTag.call.now.frame < length (g.W.World.variables c.copy_out.new.world).frames = omega (arith, holds.0, c.copy_out.ensures.frames) in
    search rules

pub calls::given_call-run_code-requires : goal.calls::given_call-run_code-requires
calls::given_call-run_code-requires g t c κs within =
    let laws = g.met.W.World in
    let call = call_of c.in-InTag.call.now in
    let caller = seat_of c.in-InTag.caller.now in
    let counted = counted_so (g.W.World.variables c.copy_out.new.world) c.scopes.result.now c.frames-frames.result c.scopes.ensures c.frames-frames.ensures in
    let more : length (g.W.World.variables c.copy_out.new.world).frames ≤ length (g.W.World.variables c.turn_to.new.self).frames = omega (arith, c.turn_to.ensures.frames) in
    let name = option_map (λ n. n.now) c.args.name in
    let known = given_known laws.stores_on laws.again laws.tells c.args.at.now.served.now call caller c.in-Code.pc c.in-Some.left c.frame-frame.result c.frames-frames.result c.args.world.now c.copy_out.new.world c.turn_to.new.self c.args.world.now c.requires.known
    c.in_default-copy_out.ensures.does c.turn_to.ensures.turned c.turn_to.ensures.replies c.frame-frame.ensures.current counted more in
    let seated = subst SeatFits (ap seat_of c.in-InTag.is) c.requires.seat in
    let n = length (g.W.World.variables c.args.world.now).frames in
    let m = length (g.W.World.variables c.turn_to.new.self).frames in
    let holds = subst (λ x. SeatHolds x n) (ap seat_of c.in-InTag.is) c.requires.holds in
    let stands = holds_more caller n m (omega (arith, c.copy_out.ensures.frames, c.turn_to.ensures.frames)) holds.2 in
    let at = begins_given name call caller c.in-Code.pc seated.1 (c.in-Code.ensures caller) in
    let fits = seated.2 in
    let records = subst (λ x. IsRecordsOf c.args.at.now.served.now.request.now (params_at x) c.args.records.now) c.in-InTag.is c.requires.records in
    search rules

pub calls::given_call-go_back-requires : goal.calls::given_call-go_back-requires
calls::given_call-go_back-requires g t c =
    let laws = g.met.W.World in
    let call = call_of c.in-InTag.call.now in
    let caller = seat_of c.in-InTag.caller.now in
    let counted = counted_so (g.W.World.variables c.copy_out.new.world) c.scopes.result.now c.frames-frames.result c.scopes.ensures c.frames-frames.ensures in
    let more : length (g.W.World.variables c.copy_out.new.world).frames ≤ length (g.W.World.variables c.turn_to.new.self).frames = omega (arith, c.turn_to.ensures.frames) in
    let room = given_room laws.stores_on laws.again laws.tells c.args.at.now.served.now call caller c.in-Code.pc c.in-Some.left c.frame-frame.result c.frames-frames.result c.args.world.now c.copy_out.new.world c.turn_to.new.self c.run_code.new.world c.requires.known
    c.in_default-copy_out.ensures.does c.turn_to.ensures.turned c.turn_to.ensures.replies c.frame-frame.ensures.current counted more ends.Normal (λ x. Well tt x) normal_is (λ n t h. h) c.in-Normal.ensures.ran in
    let there : c.frame-frame.result < c.frames-frames.result = omega (arith, c.frame-frame.ensures.there, counted) in
    search rules

pub calls::given_call-go_back-requires-in-Raised : goal.calls::given_call-go_back-requires-in-Raised
calls::given_call-go_back-requires-in-Raised g t c =
    let laws = g.met.W.World in
    let call = call_of c.in-InTag.call.now in
    let caller = seat_of c.in-InTag.caller.now in
    let counted = counted_so (g.W.World.variables c.copy_out.new.world) c.scopes.result.now c.frames-frames.result c.scopes.ensures c.frames-frames.ensures in
    let more : length (g.W.World.variables c.copy_out.new.world).frames ≤ length (g.W.World.variables c.turn_to.new.self).frames = omega (arith, c.turn_to.ensures.frames) in
    let room = given_room laws.stores_on laws.again laws.tells c.args.at.now.served.now call caller c.in-Code.pc c.in-Some.left c.frame-frame.result c.frames-frames.result c.args.world.now c.copy_out.new.world c.turn_to.new.self c.run_code.new.world c.requires.known
    c.in_default-copy_out.ensures.does c.turn_to.ensures.turned c.turn_to.ensures.replies c.frame-frame.ensures.current counted more (ends.Raised c.in-Raised.fault c.in-Raised.place) (λ x. Raised c.in-Raised.fault c.in-Raised.place x) (raised_is c.in-Raised.fault c.in-Raised.place) (λ n t h. h) c.in-Raised.ensures.ran in
    let there : c.frame-frame.result < c.frames-frames.result = omega (arith, c.frame-frame.ensures.there, counted) in
    search rules

pub calls::given_call-returns-in-InPage-clause-stepped : goal.calls::given_call-returns-in-InPage-clause-stepped
calls::given_call-returns-in-InPage-clause-stepped g t c =
    let seat = seat_at c.args.at.now in
    let o = open_of c.args.opened.now in
    let name = option_map (λ n. n.now) c.args.name in
    acted_stepped seat (λ serving s. given_called c.args.at.now.cell.place (given_by name seat) seat (c.args.at.now.pc + 1) s o) c.args.world.now c.args.world.now o (flows.Go (c.args.at.now.pc + 1))
    (λ serving h. given_page c.args.at.now.cell.place (c.args.at.now.pc + 1) o name seat c.args.world.now (program_of c.in-InPage.field-0.now) (params_of c.in-InPage.field-1.now) (ap seat_of c.in-InPage.is))

pub calls::given_call-returns-in-Nothing-clause-stepped : goal.calls::given_call-returns-in-Nothing-clause-stepped
calls::given_call-returns-in-Nothing-clause-stepped g t c =
    let seat = seat_at c.args.at.now in
    let o = open_of c.args.opened.now in
    let name = option_map (λ n. n.now) c.args.name in
    acted_stepped seat (λ serving s. given_called c.args.at.now.cell.place (given_by name seat) seat (c.args.at.now.pc + 1) s o) c.args.world.now c.args.world.now o (flows.Go (c.args.at.now.pc + 1))
    (λ serving h. given_none c.args.at.now.cell.place (c.args.at.now.pc + 1) o name seat c.args.world.now (gives_so name seat (call_of c.in-InTag.call.now) (seat_of c.in-InTag.caller.now) nothing (ap seat_of c.in-InTag.is) (c.in-Nothing.ensures (seat_of c.in-InTag.caller.now))))

pub calls::given_call-returns-in-Source-clause-stepped : goal.calls::given_call-returns-in-Source-clause-stepped
calls::given_call-returns-in-Source-clause-stepped g t c =
    let seat = seat_at c.args.at.now in
    let o = open_of c.args.opened.now in
    let name = option_map (λ n. n.now) c.args.name in
    acted_stepped seat (λ serving s. given_called c.args.at.now.cell.place (given_by name seat) seat (c.args.at.now.pc + 1) s o) c.args.world.now c.write_source.new.world (open_of c.write_source.new.opened) c.write_source.result
    (λ serving h.
    c.write_source.ensures.acted name seat (seat_of c.in-InTag.caller.now) (ap seat_of c.in-InTag.is)
    (gives_so name seat (call_of c.in-InTag.call.now) (seat_of c.in-InTag.caller.now) (source_text c.in-Source.text.now) (ap seat_of c.in-InTag.is) (c.in-Source.ensures (seat_of c.in-InTag.caller.now))))

pub calls::given_call-returns-in_default-clause-stepped : goal.calls::given_call-returns-in_default-clause-stepped
calls::given_call-returns-in_default-clause-stepped g t c =
    let seat = seat_at c.args.at.now in
    let o = open_of c.args.opened.now in
    let name = option_map (λ n. n.now) c.args.name in
    let caller = seat_of c.in-InTag.caller.now in
    let none : c.args.opened.now.left ≡ 0 = omega (arith, c.in_default.ensures) in
    acted_stepped seat (λ serving s. given_called c.args.at.now.cell.place (given_by name seat) seat (c.args.at.now.pc + 1) s o) c.args.world.now c.throw.new.world (open_of c.throw.new.opened) c.throw.result
    (λ serving h.
    code_deep c.args.at.now.cell.place (c.args.at.now.pc + 1) o name seat (call_of c.in-InTag.call.now) caller (ap seat_of c.in-InTag.is) c.in-Code.pc c.args.world.now c.throw.new.world (open_of c.throw.new.opened) c.throw.result
    (gives_so name seat (call_of c.in-InTag.call.now) caller (code_at c.in-Code.pc) (ap seat_of c.in-InTag.is) (c.in-Code.ensures caller)) none c.throw.ensures.acted)

pub calls::given_call-returns-in-Err-clause-stepped : goal.calls::given_call-returns-in-Err-clause-stepped
calls::given_call-returns-in-Err-clause-stepped g t c =
    let seat = seat_at c.args.at.now in
    let o = open_of c.args.opened.now in
    let name = option_map (λ n. n.now) c.args.name in
    let caller = seat_of c.in-InTag.caller.now in
    acted_stepped seat (λ serving s. given_called c.args.at.now.cell.place (given_by name seat) seat (c.args.at.now.pc + 1) s o) c.args.world.now c.fail.new.world (open_of c.fail.new.opened) c.fail.result
    (λ serving h.
    copy_failed c.args.at.now.cell.place (c.args.at.now.pc + 1) o name seat (call_of c.in-InTag.call.now) caller (ap seat_of c.in-InTag.is) c.args.world.now c.copy_out.new.world c.fail.new.world c.in-Err.failed
    (open_of c.fail.new.opened) c.fail.result c.in-Err.ensures.does c.fail.ensures.acted c.fail.ensures.short)

pub calls::given_call-returns-in-Normal-clause-stepped : goal.calls::given_call-returns-in-Normal-clause-stepped
calls::given_call-returns-in-Normal-clause-stepped g t c =
    let laws = g.met.W.World in
    let call = call_of c.in-InTag.call.now in
    let caller = seat_of c.in-InTag.caller.now in
    let counted = counted_so (g.W.World.variables c.copy_out.new.world) c.scopes.result.now c.frames-frames.result c.scopes.ensures c.frames-frames.ensures in
    let more : length (g.W.World.variables c.copy_out.new.world).frames ≤ length (g.W.World.variables c.turn_to.new.self).frames = omega (arith, c.turn_to.ensures.frames) in
    let is = ap seat_of c.in-InTag.is in
    let name = option_map (λ n. n.now) c.args.name in
    let gives = gives_so name (seat_at c.args.at.now) call caller (code_at c.in-Code.pc) is (c.in-Code.ensures caller) in
    let level : c.args.opened.now.left ≡ suc c.in-Some.left = omega (arith, c.in-Some.ensures) in
    given_on laws.stores_on laws.again laws.tells c.args.at.now.served.now call caller c.in-Code.pc c.in-Some.left c.frame-frame.result c.frames-frames.result c.args.world.now c.copy_out.new.world c.turn_to.new.self c.run_code.new.world c.requires.known
    c.in_default-copy_out.ensures.does c.turn_to.ensures.turned c.turn_to.ensures.replies c.frame-frame.ensures.current counted more c.args.at.now.cell.place (c.args.at.now.pc + 1) (open_of c.args.opened.now) name (seat_at c.args.at.now) is gives level
    c.go_back.new.self c.in-Normal.ensures.ran c.go_back.ensures.back c.go_back.ensures.replies

pub calls::given_call-returns-in-Raised-clause-stepped : goal.calls::given_call-returns-in-Raised-clause-stepped
calls::given_call-returns-in-Raised-clause-stepped g t c =
    let laws = g.met.W.World in
    let call = call_of c.in-InTag.call.now in
    let caller = seat_of c.in-InTag.caller.now in
    let counted = counted_so (g.W.World.variables c.copy_out.new.world) c.scopes.result.now c.frames-frames.result c.scopes.ensures c.frames-frames.ensures in
    let more : length (g.W.World.variables c.copy_out.new.world).frames ≤ length (g.W.World.variables c.turn_to.new.self).frames = omega (arith, c.turn_to.ensures.frames) in
    let is = ap seat_of c.in-InTag.is in
    let name = option_map (λ n. n.now) c.args.name in
    let gives = gives_so name (seat_at c.args.at.now) call caller (code_at c.in-Code.pc) is (c.in-Code.ensures caller) in
    let level : c.args.opened.now.left ≡ suc c.in-Some.left = omega (arith, c.in-Some.ensures) in
    given_thrown laws.stores_on laws.again laws.tells c.args.at.now.served.now call caller c.in-Code.pc c.in-Some.left c.frame-frame.result c.frames-frames.result c.args.world.now c.copy_out.new.world c.turn_to.new.self c.run_code.new.world c.requires.known
    c.in_default-copy_out.ensures.does c.turn_to.ensures.turned c.turn_to.ensures.replies c.frame-frame.ensures.current counted more c.args.at.now.cell.place (c.args.at.now.pc + 1) (open_of c.args.opened.now) name (seat_at c.args.at.now) is gives level
    c.in-Raised.fault c.in-Raised.place c.go_back-in-Raised.new.self c.throw_at.new.world (open_of c.throw_at.new.opened) c.throw_at.result c.in-Raised.ensures.ran c.go_back-in-Raised.ensures.back
    c.go_back-in-Raised.ensures.replies c.throw_at.ensures.acted

pub calls::given_call-returns-in_default-run_code-clause-stepped : goal.calls::given_call-returns-in_default-run_code-clause-stepped
calls::given_call-returns-in_default-run_code-clause-stepped g t c =
    let laws = g.met.W.World in
    let call = call_of c.in-InTag.call.now in
    let caller = seat_of c.in-InTag.caller.now in
    let counted = counted_so (g.W.World.variables c.copy_out.new.world) c.scopes.result.now c.frames-frames.result c.scopes.ensures c.frames-frames.ensures in
    let more : length (g.W.World.variables c.copy_out.new.world).frames ≤ length (g.W.World.variables c.turn_to.new.self).frames = omega (arith, c.turn_to.ensures.frames) in
    let is = ap seat_of c.in-InTag.is in
    let name = option_map (λ n. n.now) c.args.name in
    let gives = gives_so name (seat_at c.args.at.now) call caller (code_at c.in-Code.pc) is (c.in-Code.ensures caller) in
    let level : c.args.opened.now.left ≡ suc c.in-Some.left = omega (arith, c.in-Some.ensures) in
    given_over laws.stores_on laws.again laws.tells c.args.at.now.served.now call caller c.in-Code.pc c.in-Some.left c.frame-frame.result c.frames-frames.result c.args.world.now c.copy_out.new.world c.turn_to.new.self c.run_code.new.world c.requires.known
    c.in_default-copy_out.ensures.does c.turn_to.ensures.turned c.turn_to.ensures.replies c.frame-frame.ensures.current counted more c.args.at.now.cell.place (c.args.at.now.pc + 1) (open_of c.args.opened.now) name (seat_at c.args.at.now) is gives level
    c.run_code.result (λ e. c.in_default-run_code.not-Normal e) (λ f p e. c.in_default-run_code.not-Raised f p e) c.run_code.ensures.ran

pub calls::given_call-returns-in-Normal-clause-records : goal.calls::given_call-returns-in-Normal-clause-records
calls::given_call-returns-in-Normal-clause-records g t c =
    subst (λ x. IsRecordsOf c.args.at.now.served.now.request.now (params_at x) c.run_code.new.records) (sym c.in-InTag.is) c.run_code.ensures.records

pub calls::given_call-returns-in-Raised-clause-records : goal.calls::given_call-returns-in-Raised-clause-records
calls::given_call-returns-in-Raised-clause-records g t c =
    subst (λ x. IsRecordsOf c.args.at.now.served.now.request.now (params_at x) c.run_code.new.records) (sym c.in-InTag.is) c.run_code.ensures.records

pub calls::given_call-returns-in_default-run_code-clause-records : goal.calls::given_call-returns-in_default-run_code-clause-records
calls::given_call-returns-in_default-run_code-clause-records g t c =
    subst (λ x. IsRecordsOf c.args.at.now.served.now.request.now (params_at x) c.run_code.new.records) (sym c.in-InTag.is) c.run_code.ensures.records

-- a call of a tag file

pub calls::tag_call-returns-in_default-clause-stepped : goal.calls::tag_call-returns-in_default-clause-stepped
calls::tag_call-returns-in_default-clause-stepped g t c =
    let seat = seat_at c.args.at.now in
    let o = open_of c.args.opened.now in
    let this = c.args.call.now in
    let n = length this.names in
    let next = c.args.at.now.pc + 1 in
    let p = with_stack c.drop_top.new.self o in
    let rest = dropped_so o c.drop_top.new.self c.len-count.result n c.drop_top.ensures c.len-count.ensures in
    let found = option_map (λ tag. tag_of tag.now) c.tag_at.result in
    let finds = finds_so this.path (program_of c.program.result.now) (program_in seat) found c.program.ensures c.tag_at.ensures in
    let size : c.args.at.now.pc + 1 + c.size_of.result ≡ next + call_size this = ap (λ k. c.args.at.now.pc + 1 + k) c.size_of.ensures in
    let none : found ≡ None = ap (option_map (λ tag. tag_of tag.now)) c.in_default.is in
    acted_stepped seat (λ serving s. called_out serving seat c.args.at.now.cell.place next (call.Tag this) s o) c.args.world.now c.args.world.now p (flows.Go (c.args.at.now.pc + 1 + c.size_of.result))
    (λ serving h. tag_gone c.args.at.now.cell.place this next seat o p (reverse (take n o.stack)) c.requires.filled rest refl found finds serving c.args.world.now (c.args.at.now.pc + 1 + c.size_of.result) none size)

pub calls::tag_call-enter_call-requires : goal.calls::tag_call-enter_call-requires
calls::tag_call-enter_call-requires g t c κs within =
    let seat = seat_at c.args.at.now in
    let o = open_of c.args.opened.now in
    let this = c.args.call.now in
    let n = length this.names in
    let next = c.args.at.now.pc + 1 in
    let p = with_stack c.drop_top-2.new.self o in
    let rest = dropped_so o c.drop_top-2.new.self c.len-count.result n c.drop_top-2.ensures c.len-count.ensures in
    let found = option_map (λ tag. tag_of tag.now) c.tag_at.result in
    let finds = finds_so this.path (program_of c.program.result.now) (program_in seat) found c.program.ensures c.tag_at.ensures in
    let values = map datum_of c.top.result.now in
    let taken = taken_so o.stack values c.len-count.result n c.top.ensures c.len-count.ensures in
    let tag = tag_of c.in-Some.tag.now in
    let is : found ≡ Some tag = ap (option_map (λ tag. tag_of tag.now)) c.in-Some.is in
    let fits = tag_code_fits seat c.requires.seat this.path tag (finds ∙ is) in
    search rules

pub calls::tag_call-returns-in-Ok-clause-stepped : goal.calls::tag_call-returns-in-Ok-clause-stepped
calls::tag_call-returns-in-Ok-clause-stepped g t c =
    let seat = seat_at c.args.at.now in
    let o = open_of c.args.opened.now in
    let this = c.args.call.now in
    let n = length this.names in
    let next = c.args.at.now.pc + 1 in
    let p = with_stack c.drop_top-2.new.self o in
    let rest = dropped_so o c.drop_top-2.new.self c.len-count.result n c.drop_top-2.ensures c.len-count.ensures in
    let found = option_map (λ tag. tag_of tag.now) c.tag_at.result in
    let finds = finds_so this.path (program_of c.program.result.now) (program_in seat) found c.program.ensures c.tag_at.ensures in
    let values = map datum_of c.top.result.now in
    let taken = taken_so o.stack values c.len-count.result n c.top.ensures c.len-count.ensures in
    let tag = tag_of c.in-Some.tag.now in
    let is : found ≡ Some tag = ap (option_map (λ tag. tag_of tag.now)) c.in-Some.is in
    let entries = c.in-Ok.entries in
    let made = subst (λ ns. first_frame tag.decl (table_of ns values) ≡ Ok entries) c.as_slice.ensures c.in-Ok.ensures in
    stepped_as seat (λ serving s. called_out serving seat c.args.at.now.cell.place next (call.Tag this) s o) (λ serving s. entered_move c.args.at.now.cell.place this next seat p tag entries s) c.args.world.now c.enter_call.new.world (open_of c.enter_call.new.opened) c.enter_call.result
    (λ serving h s. tag_made c.args.at.now.cell.place this next seat o p values c.requires.filled rest taken found finds serving tag is entries made s) c.enter_call.ensures.stepped

pub calls::tag_call-returns-in-Err-clause-stepped : goal.calls::tag_call-returns-in-Err-clause-stepped
calls::tag_call-returns-in-Err-clause-stepped g t c =
    let seat = seat_at c.args.at.now in
    let o = open_of c.args.opened.now in
    let this = c.args.call.now in
    let n = length this.names in
    let next = c.args.at.now.pc + 1 in
    let p = with_stack c.drop_top-2.new.self o in
    let rest = dropped_so o c.drop_top-2.new.self c.len-count.result n c.drop_top-2.ensures c.len-count.ensures in
    let found = option_map (λ tag. tag_of tag.now) c.tag_at.result in
    let finds = finds_so this.path (program_of c.program.result.now) (program_in seat) found c.program.ensures c.tag_at.ensures in
    let values = map datum_of c.top.result.now in
    let taken = taken_so o.stack values c.len-count.result n c.top.ensures c.len-count.ensures in
    let tag = tag_of c.in-Some.tag.now in
    let is : found ≡ Some tag = ap (option_map (λ tag. tag_of tag.now)) c.in-Some.is in
    acted_stepped seat (λ serving s. called_out serving seat c.args.at.now.cell.place next (call.Tag this) s o) c.args.world.now c.fail.new.world (open_of c.fail.new.opened) c.fail.result
    (λ serving h.
    tag_failed c.args.at.now.cell.place this next seat o p values c.requires.filled rest taken found finds serving tag is c.args.world.now c.fail.new.world c.in-Err.failed (open_of c.fail.new.opened) c.fail.result
    (subst (λ ns. Answers (first_frame tag.decl (table_of ns values)) (Err c.in-Err.failed)) c.as_slice.ensures c.in-Err.ensures) c.fail.ensures.acted c.fail.ensures.short)

pub calls::enter_call-returns-in_default-clause-stepped : goal.calls::enter_call-returns-in_default-clause-stepped
calls::enter_call-returns-in_default-clause-stepped g t c =
    let seat = seat_at c.args.at.now in
    let o = open_of c.args.opened.now in
    let this = c.args.start.call.now in
    let next = c.args.at.now.pc + 1 in
    let tag = tag_of c.args.start.tag.now in
    let entries = c.args.start.entries in
    let none : c.args.opened.now.left ≡ 0 = omega (arith, c.in_default.ensures) in
    acted_stepped seat (λ serving s. entered_move c.args.at.now.cell.place this next seat o tag entries s) c.args.world.now c.throw.new.world (open_of c.throw.new.opened) c.throw.result
    (λ serving h. tag_deep c.args.at.now.cell.place this next seat o tag entries c.args.world.now c.throw.new.world (open_of c.throw.new.opened) c.throw.result none c.throw.ensures.acted)

pub calls::enter_call-returns-in_default-exports_of-clause-stepped : goal.calls::enter_call-returns-in_default-exports_of-clause-stepped
calls::enter_call-returns-in_default-exports_of-clause-stepped g t c =
    let seat = seat_at c.args.at.now in
    let o = open_of c.args.opened.now in
    let this = c.args.start.call.now in
    let next = c.args.at.now.pc + 1 in
    let tag = tag_of c.args.start.tag.now in
    let entries = c.args.start.entries in
    acted_stepped seat (λ serving s. entered_move c.args.at.now.cell.place this next seat o tag entries s) c.args.world.now c.args.world.now o (flows.Over ends.NoMemory)
    (λ serving h. acted_short (λ s. entered_move c.args.at.now.cell.place this next seat o tag entries s) c.args.world.now o (λ s. entered_grows c.args.at.now.cell.place this next seat o tag entries s))

pub calls::enter_call-returns-in_default-nested_changes-clause-stepped : goal.calls::enter_call-returns-in_default-nested_changes-clause-stepped
calls::enter_call-returns-in_default-nested_changes-clause-stepped g t c =
    let seat = seat_at c.args.at.now in
    let o = open_of c.args.opened.now in
    let this = c.args.start.call.now in
    let next = c.args.at.now.pc + 1 in
    let tag = tag_of c.args.start.tag.now in
    let entries = c.args.start.entries in
    acted_stepped seat (λ serving s. entered_move c.args.at.now.cell.place this next seat o tag entries s) c.args.world.now c.args.world.now o (flows.Over ends.NoMemory)
    (λ serving h. acted_short (λ s. entered_move c.args.at.now.cell.place this next seat o tag entries s) c.args.world.now o (λ s. entered_grows c.args.at.now.cell.place this next seat o tag entries s))

pub calls::enter_call-returns-in_default-push_frame_of-clause-stepped : goal.calls::enter_call-returns-in_default-push_frame_of-clause-stepped
calls::enter_call-returns-in_default-push_frame_of-clause-stepped g t c =
    let seat = seat_at c.args.at.now in
    let o = open_of c.args.opened.now in
    let this = c.args.start.call.now in
    let next = c.args.at.now.pc + 1 in
    let tag = tag_of c.args.start.tag.now in
    let entries = c.args.start.entries in
    acted_stepped seat (λ serving s. entered_move c.args.at.now.cell.place this next seat o tag entries s) c.args.world.now c.push_frame_of.new.self o (flows.Over ends.NoMemory)
    (λ serving h. tag_short c.args.at.now.cell.place this next seat o tag entries c.args.world.now c.push_frame_of.new.self o c.in_default-push_frame_of.ensures.err c.push_frame_of.ensures.replies)

pub calls::enter_call-run_code-requires : goal.calls::enter_call-run_code-requires
calls::enter_call-run_code-requires g t c κs within =
    let seat = seat_at c.args.at.now in
    let o = open_of c.args.opened.now in
    let this = c.args.start.call.now in
    let next = c.args.at.now.pc + 1 in
    let tag = tag_of c.args.start.tag.now in
    let entries = c.args.start.entries in
    let laws = g.met.W.World in
    let exports = map export_of c.as_slice-exports.result.now in
    let fragments = c.as_slice-2.result.now in
    let counted = counted_so (g.W.World.variables c.args.world.now) c.scopes.result.now c.frames-frames.result c.scopes.ensures c.frames-frames.ensures in
    let inner = call_with tag this.body fragments next exports c.frame-frame.result in
    let known = entered_known g.W.World.replies laws.stores_on laws.again laws.tells c.args.at.now.served.now c.args.at.now.cell.place this next seat o tag entries exports fragments c.frame-frame.result c.frames-frames.result c.in-Some.left c.args.world.now c.push_frame_of.new.self c.args.world.now c.requires.known c.in-Ok-push_frame_of.ensures.ok c.push_frame_of.ensures.replies
    c.frame-frame.ensures.current c.frame-frame.ensures.there counted in
    let more = entered_more g.W.World.replies laws.stores_on laws.again laws.tells c.args.at.now.served.now c.args.at.now.cell.place this next seat o tag entries exports fragments c.frame-frame.result c.frames-frames.result c.in-Some.left c.args.world.now c.push_frame_of.new.self c.args.world.now c.requires.known c.in-Ok-push_frame_of.ensures.ok c.push_frame_of.ensures.replies
    c.frame-frame.ensures.current c.frame-frame.ensures.there counted in
    let n = length (g.W.World.variables c.push_frame_of.new.self).frames in
    let seated : SeatFits (in_tag inner seat) =
    (c.requires.tag, (c.requires.fits.0, subst (λ fs. FragmentsBegin (code_of seat) (next + body_size this.body) fs) (sym c.as_slice-2.ensures) c.requires.fits.1), c.requires.seat) in
    let stands : c.frame-frame.result < n = omega (arith, c.frame-frame.ensures.there, more) in
    let holds : SeatHolds (in_tag inner seat) n =
    (stands, subst (λ fs. next + (body_size this.body + fragments_size fs) < 2 ^ 64) (sym c.as_slice-2.ensures) c.requires.within, holds_more seat (length (g.W.World.variables c.args.world.now).frames) n more c.requires.holds) in
    let begins = c.requires.tag.0 in
    search rules

pub calls::enter_call-give_back-requires : goal.calls::enter_call-give_back-requires
calls::enter_call-give_back-requires g t c =
    let seat = seat_at c.args.at.now in
    let o = open_of c.args.opened.now in
    let this = c.args.start.call.now in
    let next = c.args.at.now.pc + 1 in
    let tag = tag_of c.args.start.tag.now in
    let entries = c.args.start.entries in
    let laws = g.met.W.World in
    let exports = map export_of c.as_slice-exports.result.now in
    let fragments = c.as_slice-2.result.now in
    let counted = counted_so (g.W.World.variables c.args.world.now) c.scopes.result.now c.frames-frames.result c.scopes.ensures c.frames-frames.ensures in
    let room = entered_room g.W.World.replies laws.stores_on laws.again laws.tells c.args.at.now.served.now c.args.at.now.cell.place this next seat o tag entries exports fragments c.frame-frame.result c.frames-frames.result c.in-Some.left c.args.world.now c.push_frame_of.new.self c.run_code.new.world c.requires.known c.in-Ok-push_frame_of.ensures.ok c.push_frame_of.ensures.replies
    c.frame-frame.ensures.current c.frame-frame.ensures.there counted ends.Normal (λ x. Well tt x) normal_is (λ n t h. h) c.in-Normal.ensures.ran in
    let there : c.frame-frame.result < c.frames-frames.result = omega (arith, c.frame-frame.ensures.there, counted) in
    let stands : c.frame-frame.result < length (g.W.World.variables c.run_code.new.world).frames = omega (arith, there, room) in
    search rules

pub calls::enter_call-go_back-requires : goal.calls::enter_call-go_back-requires
calls::enter_call-go_back-requires g t c =
    let seat = seat_at c.args.at.now in
    let o = open_of c.args.opened.now in
    let this = c.args.start.call.now in
    let next = c.args.at.now.pc + 1 in
    let tag = tag_of c.args.start.tag.now in
    let entries = c.args.start.entries in
    let laws = g.met.W.World in
    let exports = map export_of c.as_slice-exports.result.now in
    let fragments = c.as_slice-2.result.now in
    let counted = counted_so (g.W.World.variables c.args.world.now) c.scopes.result.now c.frames-frames.result c.scopes.ensures c.frames-frames.ensures in
    let room = entered_room g.W.World.replies laws.stores_on laws.again laws.tells c.args.at.now.served.now c.args.at.now.cell.place this next seat o tag entries exports fragments c.frame-frame.result c.frames-frames.result c.in-Some.left c.args.world.now c.push_frame_of.new.self c.run_code.new.world c.requires.known c.in-Ok-push_frame_of.ensures.ok c.push_frame_of.ensures.replies
    c.frame-frame.ensures.current c.frame-frame.ensures.there counted ends.Normal (λ x. Well tt x) normal_is (λ n t h. h) c.in-Normal.ensures.ran in
    let there : c.frame-frame.result < c.frames-frames.result = omega (arith, c.frame-frame.ensures.there, counted) in
    let all : c.frames-frames.result ≤ length (g.W.World.variables c.give_back.new.world).frames = omega (arith, room, c.give_back.ensures.frames) in
    search rules

pub calls::enter_call-go_back-requires-in-Raised : goal.calls::enter_call-go_back-requires-in-Raised
calls::enter_call-go_back-requires-in-Raised g t c =
    let seat = seat_at c.args.at.now in
    let o = open_of c.args.opened.now in
    let this = c.args.start.call.now in
    let next = c.args.at.now.pc + 1 in
    let tag = tag_of c.args.start.tag.now in
    let entries = c.args.start.entries in
    let laws = g.met.W.World in
    let exports = map export_of c.as_slice-exports.result.now in
    let fragments = c.as_slice-2.result.now in
    let counted = counted_so (g.W.World.variables c.args.world.now) c.scopes.result.now c.frames-frames.result c.scopes.ensures c.frames-frames.ensures in
    let room = entered_room g.W.World.replies laws.stores_on laws.again laws.tells c.args.at.now.served.now c.args.at.now.cell.place this next seat o tag entries exports fragments c.frame-frame.result c.frames-frames.result c.in-Some.left c.args.world.now c.push_frame_of.new.self c.run_code.new.world c.requires.known c.in-Ok-push_frame_of.ensures.ok c.push_frame_of.ensures.replies
    c.frame-frame.ensures.current c.frame-frame.ensures.there counted (ends.Raised c.in-Raised.fault c.in-Raised.place) (λ x. Raised c.in-Raised.fault c.in-Raised.place x) (raised_is c.in-Raised.fault c.in-Raised.place) (λ n t h. h) c.in-Raised.ensures.ran in
    let there : c.frame-frame.result < c.frames-frames.result = omega (arith, c.frame-frame.ensures.there, counted) in
    search rules

pub calls::enter_call-returns-in-Ok-give_back-clause-stepped : goal.calls::enter_call-returns-in-Ok-give_back-clause-stepped
calls::enter_call-returns-in-Ok-give_back-clause-stepped g t c =
    let seat = seat_at c.args.at.now in
    let o = open_of c.args.opened.now in
    let this = c.args.start.call.now in
    let next = c.args.at.now.pc + 1 in
    let tag = tag_of c.args.start.tag.now in
    let entries = c.args.start.entries in
    let laws = g.met.W.World in
    let exports = map export_of c.as_slice-exports.result.now in
    let fragments = c.as_slice-2.result.now in
    let counted = counted_so (g.W.World.variables c.args.world.now) c.scopes.result.now c.frames-frames.result c.scopes.ensures c.frames-frames.ensures in
    let level : c.args.opened.now.left ≡ suc c.in-Some.left = omega (arith, c.in-Some.ensures) in
    let made = between (map export_of) (exports_of entries) c.as_slice-exports.result.now c.in-Ok.made.items c.as_slice.result.now tag.decl.variables c.as_slice-exports.ensures.value c.in-Ok.ensures c.as_slice.ensures in
    entered_on g.W.World.replies laws.stores_on laws.again laws.tells c.args.at.now.served.now c.args.at.now.cell.place this next seat o tag entries exports fragments c.frame-frame.result c.frames-frames.result c.in-Some.left c.args.world.now c.push_frame_of.new.self c.run_code.new.world c.requires.known c.in-Ok-push_frame_of.ensures.ok c.push_frame_of.ensures.replies
    c.frame-frame.ensures.current c.frame-frame.ensures.there counted
    (c.args.at.now.pc + 1 + c.size_of.result) (behind_so next c.size_of.result (call_size this) c.size_of.ensures) level made c.as_slice-2.ensures c.give_back.new.world c.go_back.new.self c.in-Normal.ensures.ran
    (λ s e. c.in-Ok-give_back.ensures.does s.scopes (changes_so exports c.as_slice-in-Normal.result.now c.in-Ok-nested_changes.before.items c.scopes-2.result.now (g.W.World.variables c.args.world.now) s.scopes c.frame-frame.result
    c.as_slice-in-Normal.ensures.value c.in-Ok-nested_changes.ensures c.scopes-2.ensures e c.frame-frame.ensures.current))
    c.go_back.ensures.back c.go_back.ensures.replies

pub calls::enter_call-returns-in-Normal-clause-stepped : goal.calls::enter_call-returns-in-Normal-clause-stepped
calls::enter_call-returns-in-Normal-clause-stepped g t c =
    let seat = seat_at c.args.at.now in
    let o = open_of c.args.opened.now in
    let this = c.args.start.call.now in
    let next = c.args.at.now.pc + 1 in
    let tag = tag_of c.args.start.tag.now in
    let entries = c.args.start.entries in
    let laws = g.met.W.World in
    let exports = map export_of c.as_slice-exports.result.now in
    let fragments = c.as_slice-2.result.now in
    let counted = counted_so (g.W.World.variables c.args.world.now) c.scopes.result.now c.frames-frames.result c.scopes.ensures c.frames-frames.ensures in
    let level : c.args.opened.now.left ≡ suc c.in-Some.left = omega (arith, c.in-Some.ensures) in
    let made = between (map export_of) (exports_of entries) c.as_slice-exports.result.now c.in-Ok.made.items c.as_slice.result.now tag.decl.variables c.as_slice-exports.ensures.value c.in-Ok.ensures c.as_slice.ensures in
    entered_failed g.W.World.replies laws.stores_on laws.again laws.tells c.args.at.now.served.now c.args.at.now.cell.place this next seat o tag entries exports fragments c.frame-frame.result c.frames-frames.result c.in-Some.left c.args.world.now c.push_frame_of.new.self c.run_code.new.world c.requires.known c.in-Ok-push_frame_of.ensures.ok c.push_frame_of.ensures.replies
    c.frame-frame.ensures.current c.frame-frame.ensures.there counted
    (next + call_size this) refl level made c.as_slice-2.ensures c.give_back.new.world c.fail.new.world c.in-Err.failed (open_of c.fail.new.opened) c.fail.result c.in-Normal.ensures.ran
    (λ s e. c.in-Err.ensures.does s.scopes (changes_so exports c.as_slice-in-Normal.result.now c.in-Ok-nested_changes.before.items c.scopes-2.result.now (g.W.World.variables c.args.world.now) s.scopes c.frame-frame.result
    c.as_slice-in-Normal.ensures.value c.in-Ok-nested_changes.ensures c.scopes-2.ensures e c.frame-frame.ensures.current))
    c.fail.ensures.acted c.fail.ensures.short

pub calls::enter_call-returns-in-Raised-clause-stepped : goal.calls::enter_call-returns-in-Raised-clause-stepped
calls::enter_call-returns-in-Raised-clause-stepped g t c =
    let seat = seat_at c.args.at.now in
    let o = open_of c.args.opened.now in
    let this = c.args.start.call.now in
    let next = c.args.at.now.pc + 1 in
    let tag = tag_of c.args.start.tag.now in
    let entries = c.args.start.entries in
    let laws = g.met.W.World in
    let exports = map export_of c.as_slice-exports.result.now in
    let fragments = c.as_slice-2.result.now in
    let counted = counted_so (g.W.World.variables c.args.world.now) c.scopes.result.now c.frames-frames.result c.scopes.ensures c.frames-frames.ensures in
    let level : c.args.opened.now.left ≡ suc c.in-Some.left = omega (arith, c.in-Some.ensures) in
    let made = between (map export_of) (exports_of entries) c.as_slice-exports.result.now c.in-Ok.made.items c.as_slice.result.now tag.decl.variables c.as_slice-exports.ensures.value c.in-Ok.ensures c.as_slice.ensures in
    entered_thrown g.W.World.replies laws.stores_on laws.again laws.tells c.args.at.now.served.now c.args.at.now.cell.place this next seat o tag entries exports fragments c.frame-frame.result c.frames-frames.result c.in-Some.left c.args.world.now c.push_frame_of.new.self c.run_code.new.world c.requires.known c.in-Ok-push_frame_of.ensures.ok c.push_frame_of.ensures.replies
    c.frame-frame.ensures.current c.frame-frame.ensures.there counted
    (next + call_size this) refl level made c.as_slice-2.ensures c.in-Raised.fault c.in-Raised.place c.go_back-in-Raised.new.self c.throw_at.new.world (open_of c.throw_at.new.opened) c.throw_at.result c.in-Raised.ensures.ran
    c.go_back-in-Raised.ensures.back c.go_back-in-Raised.ensures.replies c.throw_at.ensures.acted

pub calls::enter_call-returns-clause-stepped : goal.calls::enter_call-returns-clause-stepped
calls::enter_call-returns-clause-stepped g t c =
    let seat = seat_at c.args.at.now in
    let o = open_of c.args.opened.now in
    let this = c.args.start.call.now in
    let next = c.args.at.now.pc + 1 in
    let tag = tag_of c.args.start.tag.now in
    let entries = c.args.start.entries in
    let laws = g.met.W.World in
    let exports = map export_of c.as_slice-exports.result.now in
    let fragments = c.as_slice-2.result.now in
    let counted = counted_so (g.W.World.variables c.args.world.now) c.scopes.result.now c.frames-frames.result c.scopes.ensures c.frames-frames.ensures in
    let level : c.args.opened.now.left ≡ suc c.in-Some.left = omega (arith, c.in-Some.ensures) in
    let made = between (map export_of) (exports_of entries) c.as_slice-exports.result.now c.in-Ok.made.items c.as_slice.result.now tag.decl.variables c.as_slice-exports.ensures.value c.in-Ok.ensures c.as_slice.ensures in
    entered_over g.W.World.replies laws.stores_on laws.again laws.tells c.args.at.now.served.now c.args.at.now.cell.place this next seat o tag entries exports fragments c.frame-frame.result c.frames-frames.result c.in-Some.left c.args.world.now c.push_frame_of.new.self c.run_code.new.world c.requires.known c.in-Ok-push_frame_of.ensures.ok c.push_frame_of.ensures.replies
    c.frame-frame.ensures.current c.frame-frame.ensures.there counted
    (next + call_size this) refl level made c.as_slice-2.ensures c.run_code.result (λ e. c.in_default-run_code.not-Normal e) (λ f q e. c.in_default-run_code.not-Raised f q e) c.run_code.ensures.ran
