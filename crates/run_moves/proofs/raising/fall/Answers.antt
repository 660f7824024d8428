use Rattle.std.proofs.Common.{sym, subst}
use Rattle.run_moves.specs.Acted.{Acted}
use Rattle.run_moves.specs.Opened.{open_of}
use Rattle.run_moves.specs.declared.flow.End.TheVariants as ends
use Rattle.run_moves.specs.declared.flow.Flow.TheVariants as flows
use Rattle.run_moves.proofs.Acts.{acted_short, unwound_grows}
use Rattle.run_moves.proofs.Throwing.{fallen}
use Rattle.run_moves.proofs.raising.fall.Goals as goal
use Rattle.page_table.specs.Landing.{uncaught}
use Rattle.page_table.specs.Move.{On}

pub returns-in_default-clause-acted : goal.returns-in_default-clause-acted
returns-in_default-clause-acted g c =
    acted_short (λ s. On (uncaught c.args.fault c.args.place.now s (open_of c.args.opened.now))) c.args.world.now (open_of c.args.opened.now) (λ s. unwound_grows c.args.opened.now.loops s)

pub returns-clause-acted : goal.returns-clause-acted
returns-clause-acted g c =
    let o = open_of c.args.opened.now in
    let o2 = open_of (record c.args.opened.now { loops = c.unwind.new.loops }) in
    subst
    (λ place. Acted g.W.World.reached g.W.World.replies (λ s. On (uncaught c.args.fault c.args.place.now s o)) c.args.world.now c.unwind.new.world o2 (flows.Over (ends.Raised c.args.fault place)))
    (sym c.in-Ok.ensures) (fallen c.args.world.now c.unwind.new.world o o2 c.args.fault c.args.place.now c.unwind.ensures.unwound c.unwind.ensures.replies)
