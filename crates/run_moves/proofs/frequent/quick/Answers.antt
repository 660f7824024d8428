use Rattle.std.proofs.Common.{List, [], ap, refl, subst, sym, ℕ}
use Rattle.page_code.specs.Ops.{takes}
use Rattle.page_code.specs.declared.op.Op.TheVariants as op
use Rattle.page_meaning.specs.Bodies.{put_text}
use Rattle.run_moves.proofs.QuickExits.{done_lands, lands_as, made_lands}
use Rattle.run_moves.proofs.frequent.quick.Goals as goal
use Rattle.run_moves.specs.Opened.{open_of}
use Rattle.run_world.specs.Part.{Doing}
use Rattle.run_world.specs.Seats.{seat_of}

pub returns-in-Write-clause-lands : goal.returns-in-Write-clause-lands
returns-in-Write-clause-lands g c = λ serving.
    done_lands serving (seat_of c.args.seat.now) (open_of c.args.opened.now) c.args.op.now (op.Write c.in-Write.text) 0 [] (open_of c.args.opened.now).stack c.requires.filled
    (sym (ap takes c.in-Write.is)) refl refl c.in-Write.is c.args.world.now c.put.new.self c.put.result (λ place s. refl)
    (subst (λ (t : List ℕ). Doing g.W.World.reached g.W.World.replies (λ (u : Unit {0}). u) (λ place. put_text place t) c.args.world.now c.put.new.self c.put.result) c.as_str.ensures c.put.ensures.does)

pub returns-in-Visit-clause-lands : goal.returns-in-Visit-clause-lands
returns-in-Visit-clause-lands g c = λ serving.
    done_lands serving (seat_of c.args.seat.now) (open_of c.args.opened.now) c.args.op.now (op.Visit c.in-Visit.count) 0 [] (open_of c.args.opened.now).stack c.requires.filled
    (sym (ap takes c.in-Visit.is)) refl refl c.in-Visit.is c.args.world.now c.count_visits.new.world c.count_visits.result (λ place s. refl) c.count_visits.ensures.does

pub returns-in-Find-clause-lands : goal.returns-in-Find-clause-lands
returns-in-Find-clause-lands g c = λ serving.
    lands_as serving (seat_of c.args.seat.now) (open_of c.args.opened.now) c.args.op.now (op.Find c.in-Find.name) c.args.world.now c.find_top.new.world (open_of c.find_top.new.opened) c.find_top.result c.in-Find.is
    (c.find_top.ensures.lands serving)

pub returns-in-Put-clause-lands : goal.returns-in-Put-clause-lands
returns-in-Put-clause-lands g c = λ serving.
    lands_as serving (seat_of c.args.seat.now) (open_of c.args.opened.now) c.args.op.now op.Put c.args.world.now c.put_top.new.world (open_of c.put_top.new.opened) c.put_top.result c.in-Put.is
    (c.put_top.ensures.lands serving (seat_of c.args.seat.now))

pub returns-in-PutEscaped-clause-lands : goal.returns-in-PutEscaped-clause-lands
returns-in-PutEscaped-clause-lands g c = λ serving.
    lands_as serving (seat_of c.args.seat.now) (open_of c.args.opened.now) c.args.op.now op.PutEscaped c.args.world.now c.put_escaped_top.new.world (open_of c.put_escaped_top.new.opened) c.put_escaped_top.result c.in-PutEscaped.is
    (c.put_escaped_top.ensures.lands serving (seat_of c.args.seat.now))

pub returns-in-Const-clause-lands : goal.returns-in-Const-clause-lands
returns-in-Const-clause-lands g c = λ serving.
    made_lands serving (seat_of c.args.seat.now) (open_of c.args.opened.now) c.args.op.now (op.Const c.in-Const.value) c.args.world.now c.push_copy.result c.push_copy.new.stack c.in-Const.is tt c.requires.filled c.push_copy.ensures

pub returns-in-Index-clause-lands : goal.returns-in-Index-clause-lands
returns-in-Index-clause-lands g c = λ serving.
    made_lands serving (seat_of c.args.seat.now) (open_of c.args.opened.now) c.args.op.now op.Index c.args.world.now c.index_top.result c.index_top.new.stack c.in-Index.is tt c.requires.filled c.index_top.ensures

pub returns-in-Coerce-clause-lands : goal.returns-in-Coerce-clause-lands
returns-in-Coerce-clause-lands g c = λ serving.
    made_lands serving (seat_of c.args.seat.now) (open_of c.args.opened.now) c.args.op.now (op.Coerce c.in-Coerce.coercion) c.args.world.now c.coerce_top.result c.coerce_top.new.stack c.in-Coerce.is tt c.requires.filled c.coerce_top.ensures

pub returns-in-Unary-clause-lands : goal.returns-in-Unary-clause-lands
returns-in-Unary-clause-lands g c = λ serving.
    made_lands serving (seat_of c.args.seat.now) (open_of c.args.opened.now) c.args.op.now (op.Unary c.in-Unary.op) c.args.world.now c.unary_top.result c.unary_top.new.stack c.in-Unary.is tt c.requires.filled c.unary_top.ensures

pub returns-in-Binary-clause-lands : goal.returns-in-Binary-clause-lands
returns-in-Binary-clause-lands g c = λ serving.
    made_lands serving (seat_of c.args.seat.now) (open_of c.args.opened.now) c.args.op.now (op.Binary c.in-Binary.op) c.args.world.now c.binary_top.result c.binary_top.new.stack c.in-Binary.is tt c.requires.filled c.binary_top.ensures
