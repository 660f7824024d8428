use Rattle.page_machine.proofs.CallExits.{acted_stepped, stepped_as}
use Rattle.page_machine.proofs.PageCalls.{include_failed_is, path_failed, path_on, path_page}
use Rattle.page_machine.proofs.TagCalls.{include_deep}
use Rattle.page_machine.proofs.found.included_at.Goals as goal
use Rattle.page_machine.specs.Pages.{include_found, params_for}
use Rattle.page_table.specs.Landing.{thrown}
use Rattle.page_table.specs.Move.{On}
use Rattle.page_table.specs.Pages.{include_path, included}
use Rattle.page_table.specs.Program.{absent, bad, plain}
use Rattle.page_table.specs.Seat.{page_run_of}
use Rattle.pg_value.specs.declared.fault.RunFault.TheVariants as fault
use Rattle.run_moves.proofs.Acts.{acted_as, acted_on}
use Rattle.run_moves.specs.At.{seat_at}
use Rattle.run_moves.specs.Landing.{failing}
use Rattle.run_moves.specs.Opened.{open_of}
use Rattle.run_moves.specs.declared.flow.Flow.TheVariants as flows
use Rattle.run_world.proofs.Knowing.{known_done, serves_done}
use Rattle.run_world.specs.Programs.{program_of}
use Rattle.std.proofs.Common.{Ok, ap, arith, refl, suc, ◌+◌, ◌≡◌}
use Rattle.std.specs.Arc.{arc_value}

pub returns-in-Err-clause-done : goal.returns-in-Err-clause-done
returns-in-Err-clause-done g c =
    let seat = seat_at c.args.at.now in
    let o = open_of c.args.opened.now in
    acted_stepped seat (λ serving s. include_found (page_run_of seat) serving c.args.at.now.cell.place c.args.found (c.args.at.now.pc + 1) s o) c.args.world.now c.fail.new.world (open_of c.fail.new.opened) c.fail.result
    (λ serving h.
    acted_as (λ s. include_found (page_run_of seat) serving c.args.at.now.cell.place c.args.found (c.args.at.now.pc + 1) s o) (failing c.args.at.now.cell.place o c.in-Err.failed) c.args.world.now c.fail.new.world (open_of c.fail.new.opened) c.fail.result
    (λ s. rw c.in-Err.is (include_failed_is (page_run_of seat) serving c.args.at.now.cell.place c.in-Err.failed (c.args.at.now.pc + 1) s o)) c.fail.ensures.acted)

pub returns-in_default-clause-done : goal.returns-in_default-clause-done
returns-in_default-clause-done g c =
    let seat = seat_at c.args.at.now in
    let o = open_of c.args.opened.now in
    let none : c.args.opened.now.left ≡ 0 = omega (arith, c.in_default.ensures) in
    acted_stepped seat (λ serving s. include_found (page_run_of seat) serving c.args.at.now.cell.place c.args.found (c.args.at.now.pc + 1) s o) c.args.world.now c.throw.new.world (open_of c.throw.new.opened) c.throw.result
    (λ serving h.
    acted_as (λ s. include_found (page_run_of seat) serving c.args.at.now.cell.place c.args.found (c.args.at.now.pc + 1) s o) (λ s. On (thrown fault.TooDeep c.args.at.now.cell.place s o)) c.args.world.now c.throw.new.world (open_of c.throw.new.opened) c.throw.result
    (λ s. rw c.in-Ok.is (include_deep serving c.args.at.now.cell.place (params_for (page_run_of seat) c.in-Ok.target.params) c.in-Ok.target.path (c.args.at.now.pc + 1) s o none)) c.throw.ensures.acted)

pub returns-in-Err-page-clause-done : goal.returns-in-Err-page-clause-done
returns-in-Err-page-clause-done g c =
    let seat = seat_at c.args.at.now in
    let o = open_of c.args.opened.now in
    let params = params_for (page_run_of seat) c.in-Ok.target.params in
    let level : c.args.opened.now.left ≡ suc c.in-Some.left = omega (arith, c.in-Some.ensures) in
    stepped_as seat (λ serving s. include_found (page_run_of seat) serving c.args.at.now.cell.place c.args.found (c.args.at.now.pc + 1) s o)
    (λ serving s. include_path serving c.args.at.now.cell.place params c.in-Ok.target.path (c.args.at.now.pc + 1) s o) c.args.world.now c.fail-in-Err-page.new.world (open_of c.fail-in-Err-page.new.opened)
    c.fail-in-Err-page.result (λ serving h s. ap (λ f. include_found (page_run_of seat) serving c.args.at.now.cell.place f (c.args.at.now.pc + 1) s o) c.in-Ok.is)
    (path_failed c.args.at.now.cell.place (c.args.at.now.pc + 1) c.in-Some.left params c.in-Ok.target.path o level seat c.args.world.now c.page.new.self c.fail-in-Err-page.new.world c.in-Err-page.failed
    (open_of c.fail-in-Err-page.new.opened) c.fail-in-Err-page.result (λ serving h. c.in-Err-page.ensures.does serving h.stored) c.fail-in-Err-page.ensures.acted c.fail-in-Err-page.ensures.short)

pub returns-in-Page-clause-page : goal.returns-in-Page-clause-page
returns-in-Page-clause-page g c =
    let seat = seat_at c.args.at.now in
    let o = open_of c.args.opened.now in
    let params = params_for (page_run_of seat) c.in-Ok.target.params in
    let k = c.requires.known in
    let level : c.args.opened.now.left ≡ suc c.in-Some.left = omega (arith, c.in-Some.ensures) in
    record {
      known = known_done g.met.W.World.stores_on g.met.W.World.again c.args.at.now.served.now c.args.world.now c.page.new.self (Ok c.in-Ok-page.paged) k (c.in-Ok-page.ensures.does k.serving k.serves.stored);
      deeper = omega (arith, level);
      on = λ later opened flow stepped.
          stepped_as seat (λ serving s. include_found (page_run_of seat) serving c.args.at.now.cell.place c.args.found (c.args.at.now.pc + 1) s o)
          (λ serving s. include_path serving c.args.at.now.cell.place params c.in-Ok.target.path (c.args.at.now.pc + 1) s o) c.args.world.now later opened flow
          (λ serving h s. ap (λ f. include_found (page_run_of seat) serving c.args.at.now.cell.place f (c.args.at.now.pc + 1) s o) c.in-Ok.is)
          (path_page c.args.at.now.cell.place (c.args.at.now.pc + 1) c.in-Some.left params c.in-Ok.target.path o level seat c.in-Ok-page.paged c.args.world.now c.page.new.self
          (λ serving h. c.in-Ok-page.ensures.does serving h.stored) (program_of (arc_value c.in-Page.program)) later opened flow
          (λ serving h. rw (← c.in-Ok-page.ensures.found serving h.stored, c.in-Page.is) refl)
          (λ serving h. serves_done g.met.W.World.stores_on g.met.W.World.again c.args.at.now.served.now c.args.world.now c.page.new.self (Ok c.in-Ok-page.paged) serving k (c.in-Ok-page.ensures.does k.serving k.serves.stored) h)
          stepped);
    }

pub returns-in-Plain-clause-done : goal.returns-in-Plain-clause-done
returns-in-Plain-clause-done g c =
    let seat = seat_at c.args.at.now in
    let o = open_of c.args.opened.now in
    let params = params_for (page_run_of seat) c.in-Ok.target.params in
    let level : c.args.opened.now.left ≡ suc c.in-Some.left = omega (arith, c.in-Some.ensures) in
    stepped_as seat (λ serving s. include_found (page_run_of seat) serving c.args.at.now.cell.place c.args.found (c.args.at.now.pc + 1) s o)
    (λ serving s. include_path serving c.args.at.now.cell.place params c.in-Ok.target.path (c.args.at.now.pc + 1) s o) c.args.world.now c.include_text.new.world (open_of c.include_text.new.opened) c.include_text.result
    (λ serving h s. ap (λ f. include_found (page_run_of seat) serving c.args.at.now.cell.place f (c.args.at.now.pc + 1) s o) c.in-Ok.is)
    (path_on c.args.at.now.cell.place (c.args.at.now.pc + 1) c.in-Some.left params c.in-Ok.target.path o level seat c.in-Ok-page.paged c.args.world.now c.page.new.self
    (λ serving h. c.in-Ok-page.ensures.does serving h.stored) (plain c.in-Plain.text) c.include_text.new.world (open_of c.include_text.new.opened) c.include_text.result
    (λ serving h. rw (← c.in-Ok-page.ensures.found serving h.stored, c.in-Plain.is) refl) c.include_text.ensures.acted)

pub returns-in-Absent-clause-done : goal.returns-in-Absent-clause-done
returns-in-Absent-clause-done g c =
    let seat = seat_at c.args.at.now in
    let o = open_of c.args.opened.now in
    let params = params_for (page_run_of seat) c.in-Ok.target.params in
    let level : c.args.opened.now.left ≡ suc c.in-Some.left = omega (arith, c.in-Some.ensures) in
    stepped_as seat (λ serving s. include_found (page_run_of seat) serving c.args.at.now.cell.place c.args.found (c.args.at.now.pc + 1) s o)
    (λ serving s. include_path serving c.args.at.now.cell.place params c.in-Ok.target.path (c.args.at.now.pc + 1) s o) c.args.world.now c.page.new.self o (flows.Go (c.args.at.now.pc + 1))
    (λ serving h s. ap (λ f. include_found (page_run_of seat) serving c.args.at.now.cell.place f (c.args.at.now.pc + 1) s o) c.in-Ok.is)
    (path_on c.args.at.now.cell.place (c.args.at.now.pc + 1) c.in-Some.left params c.in-Ok.target.path o level seat c.in-Ok-page.paged c.args.world.now c.page.new.self
    (λ serving h. c.in-Ok-page.ensures.does serving h.stored) (absent) c.page.new.self o (flows.Go (c.args.at.now.pc + 1))
    (λ serving h. rw (← c.in-Ok-page.ensures.found serving h.stored, c.in-Absent.is) refl)
    (acted_on (λ s. included c.args.at.now.cell.place params c.in-Some.left (absent) (c.args.at.now.pc + 1) s o) c.page.new.self o (c.args.at.now.pc + 1) (λ s. refl)))

pub returns-clause-done : goal.returns-clause-done
returns-clause-done g c =
    let seat = seat_at c.args.at.now in
    let o = open_of c.args.opened.now in
    let params = params_for (page_run_of seat) c.in-Ok.target.params in
    let level : c.args.opened.now.left ≡ suc c.in-Some.left = omega (arith, c.in-Some.ensures) in
    stepped_as seat (λ serving s. include_found (page_run_of seat) serving c.args.at.now.cell.place c.args.found (c.args.at.now.pc + 1) s o)
    (λ serving s. include_path serving c.args.at.now.cell.place params c.in-Ok.target.path (c.args.at.now.pc + 1) s o) c.args.world.now c.page.new.self o (flows.Go (c.args.at.now.pc + 1))
    (λ serving h s. ap (λ f. include_found (page_run_of seat) serving c.args.at.now.cell.place f (c.args.at.now.pc + 1) s o) c.in-Ok.is)
    (path_on c.args.at.now.cell.place (c.args.at.now.pc + 1) c.in-Some.left params c.in-Ok.target.path o level seat c.in-Ok-page.paged c.args.world.now c.page.new.self
    (λ serving h. c.in-Ok-page.ensures.does serving h.stored) (bad c.in-Bad.field-0) c.page.new.self o (flows.Go (c.args.at.now.pc + 1))
    (λ serving h. rw (← c.in-Ok-page.ensures.found serving h.stored, c.in-Bad.is) refl)
    (acted_on (λ s. included c.args.at.now.cell.place params c.in-Some.left (bad c.in-Bad.field-0) (c.args.at.now.pc + 1) s o) c.page.new.self o (c.args.at.now.pc + 1) (λ s. refl)))
