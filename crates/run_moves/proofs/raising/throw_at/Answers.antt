use Rattle.std.proofs.Common.{◌≤◌, ◌<◌, ◌∷◌, ap, ◌∙◌, subst}
use Rattle.std.specs.Prelude.{map}
use Rattle.run_moves.specs.Opened.{catch_of, open_of}
use Rattle.run_moves.proofs.Acts.{acted_as, acted_short, thrown_grows}
use Rattle.run_moves.proofs.Throwing.{caught, caught_is, thrown_free, thrown_high}
use Rattle.run_moves.proofs.raising.throw_at.Goals as goal
use Rattle.page_meaning.specs.Faults.{fault_record}
use Rattle.page_table.specs.Landing.{thrown, uncaught}
use Rattle.page_table.specs.Move.{On}

pub returns-then-number-gt16-clause-acted : goal.returns-then-number-gt16-clause-acted
returns-then-number-gt16-clause-acted g c =
    let o = open_of c.args.opened.now in
    let high = subst (λ n. 16 < n) c.number.ensures c.if-number-gt16.true in
    acted_as (λ s. On (thrown c.args.fault c.args.place.now s o)) (λ s. On (uncaught c.args.fault c.args.place.now s o)) c.args.world.now c.fall.new.world (open_of c.fall.new.opened) c.fall.result
    (λ s. ap On (thrown_high c.args.fault c.args.place.now s o high)) c.fall.ensures.acted

pub returns-in_default-clause-acted : goal.returns-in_default-clause-acted
returns-in_default-clause-acted g c =
    let o = open_of c.args.opened.now in
    let p = open_of (record c.args.opened.now { catches = c.pop.new.self }) in
    acted_as (λ s. On (thrown c.args.fault c.args.place.now s o)) (λ s. On (uncaught c.args.fault c.args.place.now s p)) c.args.world.now c.fall-in_default.new.world (open_of c.fall-in_default.new.opened)
    c.fall-in_default.result (λ s. ap On (thrown_free c.args.fault c.args.place.now s o (ap (map catch_of) c.in_default.ensures.0))) c.fall-in_default.ensures.acted

pub returns-in_default-fault_record-clause-acted : goal.returns-in_default-fault_record-clause-acted
returns-in_default-fault_record-clause-acted g c =
    let o = open_of c.args.opened.now in
    acted_short (λ s. On (thrown c.args.fault c.args.place.now s o)) c.args.world.now (open_of (record c.args.opened.now { catches = c.pop.new.self }))
    (λ s. thrown_grows c.args.fault c.args.place.now s o)

pub returns-in_default-push-clause-acted : goal.returns-in_default-push-clause-acted
returns-in_default-push-clause-acted g c =
    let o = open_of c.args.opened.now in
    acted_short (λ s. On (thrown c.args.fault c.args.place.now s o)) c.args.world.now (open_of (record c.args.opened.now { stack = c.push.new.self; catches = c.pop.new.self }))
    (λ s. thrown_grows c.args.fault c.args.place.now s o)

pub returns-clause-acted : goal.returns-clause-acted
returns-clause-acted g c =
    let o = open_of c.args.opened.now in
    let o2 = open_of (record c.args.opened.now { stack = c.push.new.self; loops = c.unwind.new.loops; catches = c.pop.new.self }) in
    let innermost = catch_of c.in-Some.innermost in
    let outer = map catch_of c.pop.new.self in
    let low = subst (λ n. n ≤ 16) c.number.ensures c.if-number-gt16.false in
    caught c.args.world.now c.unwind.new.world c.drop_bodies.new.self o o2 c.args.fault c.args.place.now innermost outer low (ap (map catch_of) c.in-Some.ensures)
    (caught_is c.args.fault c.args.place.now o innermost outer c.push.new.self c.unwind.new.loops
    (c.in-Ok-push.ensures.ok ∙ ap (λ d. d ∷ c.cut.new.self) c.in-Ok.ensures
    ∙ ap (λ xs. fault_record (record { fault = c.args.fault; place = c.args.place.now }) ∷ xs) c.cut.ensures) c.unwind.ensures.loops)
    c.unwind.ensures.unwound c.drop_bodies.ensures.left c.unwind.ensures.replies c.drop_bodies.ensures.replies
