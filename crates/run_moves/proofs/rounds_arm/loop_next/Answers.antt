use Rattle.std.proofs.Common.{◌≡◌, ◌∙◌, ◌∷◌, ◌+◌, ◌-◌, [], ap, subst, sym}
use Rattle.run_moves.specs.Acted.{Acted}
use Rattle.run_moves.specs.Landing.{failing}
use Rattle.run_moves.specs.Loops.{advanced, loop_of}
use Rattle.run_moves.specs.Opened.{open_of}
use Rattle.run_moves.specs.declared.flow.Flow.TheVariants as flows
use Rattle.run_moves.proofs.RoundArms.{Nexts, next_ended, next_failed, next_well, same_first}
use Rattle.run_moves.proofs.rounds_arm.loop_next.Goals as goal
use Rattle.run_values.specs.Rounds.{behind_round}

pub returns-in_default-next-clause-acted : goal.returns-in_default-next-clause-acted
returns-in_default-next-clause-acted g c =
    let ended = loop_of c.in-Some-pop.ended in
    let none : ended.rounds ≡ [] = ap (λ l. l.rounds) (same_first ended (loop_of c.in-Some.innermost.now) c.pop.new.self c.in-Some.ensures.0 (sym c.in-Some-pop.ensures ∙ c.in-Some.ensures.1)) ∙ c.in_default-next.ensures in
    next_ended c.args.at.now.cell.place (c.args.at.now.pc - c.args.size) (c.args.at.now.pc + 1) (open_of c.args.opened.now) ended c.pop.new.self c.in-Some-pop.ensures c.args.world.now c.remove_named.new.world c.remove_named-in_default-next.new.world none
    c.remove_named.ensures.removed c.remove_named.ensures.replies c.remove_named-in_default-next.ensures.removed c.remove_named-in_default-next.ensures.replies

pub returns-in-Ok-clause-acted : goal.returns-in-Ok-clause-acted
returns-in-Ok-clause-acted g c =
    let o = open_of c.args.opened.now in
    let loop = loop_of c.in-Some.innermost.now in
    let outer = c.in-Some.ensures.0 in
    let next = c.in-Some-next.ensures in
    let left : c.advance.new.self ≡ record loop { rounds = next.1 } ∷ outer =
    c.advance.ensures ∙ ap advanced (c.begin_round.ensures.same ∙ c.in-Some.ensures.1) ∙ ap (λ rs. record loop { rounds = behind_round rs } ∷ outer) next.2 in
    subst
    (λ ls. Acted g.W.World.reached g.W.World.replies (Nexts c.args.at.now.cell.place (c.args.at.now.pc - c.args.size) (c.args.at.now.pc + 1) o loop outer) c.args.world.now c.begin_round.new.world (record o { loops = ls })
    (flows.Go (c.args.at.now.pc - c.args.size)))
    (sym left)
    (next_well c.args.at.now.cell.place (c.args.at.now.pc - c.args.size) (c.args.at.now.pc + 1) o loop outer c.in-Some.ensures.1 next.0 next.1 c.args.world.now c.begin_round.new.world next.2
    (c.in-Ok.ensures.does loop outer next.0 next.1 c.in-Some.ensures.1 next.2 next.3 next.4 next.5))

pub returns-in-Err-clause-acted : goal.returns-in-Err-clause-acted
returns-in-Err-clause-acted g c =
    let o = open_of c.args.opened.now in
    let loop = loop_of c.in-Some.innermost.now in
    let outer = c.in-Some.ensures.0 in
    let next = c.in-Some-next.ensures in
    let acted = subst
    (λ ls. Acted g.W.World.reached g.W.World.replies (failing c.args.at.now.cell.place (record o { loops = ls }) c.in-Err.failed) c.begin_round.new.world c.fail.new.world (open_of c.fail.new.opened) c.fail.result)
    c.begin_round.ensures.same c.fail.ensures.acted in
    next_failed c.args.at.now.cell.place (c.args.at.now.pc - c.args.size) (c.args.at.now.pc + 1) o loop outer c.in-Some.ensures.1 next.0 next.1 c.args.world.now c.begin_round.new.world c.fail.new.world c.in-Err.failed
    (open_of c.fail.new.opened) c.fail.result next.2 (c.in-Err.ensures.does loop outer next.0 next.1 c.in-Some.ensures.1 next.2 next.3 next.4 next.5) acted c.fail.ensures.short
