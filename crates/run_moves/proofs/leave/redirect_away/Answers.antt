use Rattle.std.proofs.Common.{ap, subst}
use Rattle.std.specs.Prelude.{map}
use Rattle.run_world.specs.Part.{Doing}
use Rattle.run_moves.specs.Leaving.{redirect_asked}
use Rattle.run_moves.specs.Opened.{open_of}
use Rattle.run_moves.proofs.LeaveExits.{redirect_failed, redirected}
use Rattle.run_moves.proofs.leave.redirect_away.Goals as goal
use Rattle.page_table.specs.Act.{with_stack}
use Rattle.page_table.specs.Operations.{text_at}
use Rattle.pg_value.specs.Value.{datum_of}

pub returns-in-Ok-clause-acted : goal.returns-in-Ok-clause-acted
returns-in-Ok-clause-acted g c = λ serving seat.
    let o = open_of c.args.opened.now in
    let ds = map datum_of c.top.result.now in
    redirected serving seat c.args.place.now o (with_stack c.drop_top.new.self o) ds c.requires.filled (ap (λ xs. with_stack xs o) c.drop_top.ensures) c.top.ensures c.args.world.now c.ask_redirect-asked.new.world
    c.in-Ok.address
    (subst (λ r. Doing g.W.World.reached g.W.World.replies (λ t. t) (λ place. redirect_asked place (text_at 0 ds)) c.args.world.now c.ask_redirect-asked.new.world r) c.in-Ok.is c.ask_redirect-asked.ensures.does)

pub returns-in-Err-clause-acted : goal.returns-in-Err-clause-acted
returns-in-Err-clause-acted g c = λ serving seat.
    let o = open_of c.args.opened.now in
    let ds = map datum_of c.top.result.now in
    redirect_failed serving seat c.args.place.now o (with_stack c.drop_top.new.self o) ds c.requires.filled (ap (λ xs. with_stack xs o) c.drop_top.ensures) c.top.ensures c.args.world.now
    c.ask_redirect-asked.new.world c.fail.new.world c.in-Err.failed (open_of c.fail.new.opened) c.fail.result
    (subst (λ r. Doing g.W.World.reached g.W.World.replies (λ t. t) (λ place. redirect_asked place (text_at 0 ds)) c.args.world.now c.ask_redirect-asked.new.world r) c.in-Err.is c.ask_redirect-asked.ensures.does)
    c.fail.ensures.acted c.fail.ensures.short
