use Rattle.std.proofs.Common.{Err, Ok, subst, sym}
use Rattle.run_moves.proofs.RoundArms.{Naming, round_failed, round_short, round_unnamed, round_unstated, round_unvisited, round_well}
use Rattle.run_world.proofs.Exits.{err_as}
use Rattle.run_moves.proofs.rounds_arm.begin_round.Goals as goal
use Rattle.page_meaning.specs.Loops.{set_status}
use Rattle.page_meaning.specs.Rounds.{status_record}
use Rattle.pg_value.specs.Value.{datum_of}
use Rattle.run_values.specs.Rounds.{round_at}
use Rattle.run_world.specs.Part.{Doing}

pub returns-in_err-count_visit-clause-does : goal.returns-in_err-count_visit-clause-does
returns-in_err-count_visit-clause-does g c = λ r rest e i n l.
    err_as c.from_residual.result c.in_err-count_visit.field-0.0 c.from_residual.ensures.1
    (round_unvisited c.args.looping.now.variable c.args.looping.now.status c.args.looping.now.statuses r c.args.world.now c.count_visit.new.world c.in_err-count_visit.field-0.0
    c.in_err-count_visit.ensures.does)

pub returns-in_err-item-clause-does : goal.returns-in_err-item-clause-does
returns-in_err-item-clause-does g c = λ r rest e i n l.
    err_as c.from_residual-in_err-item.result c.in_err-item.field-0.0 c.from_residual-in_err-item.ensures.1
    (round_failed c.args.looping.now.variable c.args.looping.now.status c.args.looping.now.statuses r c.args.world.now c.count_visit.new.world c.in_err-item.field-0.0 c.in_ok-count_visit.ensures.does
    (c.in_err-item.ensures r rest e))

pub returns-in_default-clause-does : goal.returns-in_default-clause-does
returns-in_default-clause-does g c = λ r rest e i n l.
    round_unstated c.args.looping.now.variable c.args.looping.now.status c.args.looping.now.statuses r c.args.world.now c.count_visit.new.world c.set_named.new.world c.in_ok-item.item c.args.mark.now
    c.set_named.result i n l c.in_default.is c.in_ok-count_visit.ensures.does (c.in_ok-item.ensures r rest e) c.set_named.ensures.does

pub returns-in_err-copy-clause-does : goal.returns-in_err-copy-clause-does
returns-in_err-copy-clause-does g c = λ r rest e i n l.
    round_short c.args.looping.now.variable c.args.looping.now.status c.args.looping.now.statuses r c.args.world.now c.count_visit.new.world c.from_residual-in_err-copy.result
    c.from_residual-in_err-copy.ensures.1 c.in_ok-count_visit.ensures.does

pub returns-in_err-set_named-clause-does : goal.returns-in_err-set_named-clause-does
returns-in_err-set_named-clause-does g c = λ r rest e i n l.
    err_as c.from_residual-in_err-set_named.result c.in_err-set_named.field-0.0 c.from_residual-in_err-set_named.ensures.1
    (round_unnamed c.args.looping.now.variable c.args.looping.now.status c.args.looping.now.statuses r c.args.world.now c.count_visit.new.world c.set_named-2.new.world c.in_ok-item.item
    c.in_err-set_named.field-0.0 c.in_ok-count_visit.ensures.does (c.in_ok-item.ensures r rest e)
    (subst (λ v. Doing g.W.World.reached g.W.World.replies (λ (u : Unit {0}). u) (Naming c.args.looping.now.variable (datum_of v)) c.count_visit.new.world c.set_named-2.new.world (Err c.in_err-set_named.field-0.0))
    c.in_ok-copy.ensures c.in_err-set_named.ensures.does))

pub returns-clause-does : goal.returns-clause-does
returns-clause-does g c = λ r rest e i n l.
    let named = subst (λ v. Doing g.W.World.reached g.W.World.replies (λ (u : Unit {0}). u) (Naming c.args.looping.now.variable (datum_of v)) c.count_visit.new.world c.set_named-2.new.world (Ok tt)) c.in_ok-copy.ensures
    c.in_ok-set_named.ensures.does in
    let does = subst
    (λ status. Doing g.W.World.reached g.W.World.replies (λ (u : Unit {0}). u)
    (λ place. set_status place status (status_record c.args.looping.now.statuses (round_at c.args.mark.now) (datum_of c.in_ok-item.item))) c.set_named-2.new.world c.set_status.new.world c.set_status.result)
    (sym c.in-Some.is) c.set_status.ensures.does in
    round_well c.args.looping.now.variable c.args.looping.now.status c.args.looping.now.statuses r c.args.world.now c.count_visit.new.world c.set_named-2.new.world c.set_status.new.world c.in_ok-item.item
    c.args.mark.now c.set_status.result i n l c.in_ok-count_visit.ensures.does (c.in_ok-item.ensures r rest e) named does
