use Rattle.std.proofs.Common.{◌+◌, ◌∷◌, ap, ◌∙◌, length}
use Rattle.std.specs.Prelude.{map}
use Rattle.run_moves.specs.Opened.{catch_of, open_of}
use Rattle.run_moves.proofs.Acts.{acted_short}
use Rattle.page_meaning.proofs.Growing.{same}
use Rattle.run_moves.proofs.ArmExits.{catch_exit}
use Rattle.run_moves.proofs.arms.catch_start.Goals as goal
use Rattle.page_table.specs.Act.{with_catch}
use Rattle.page_table.specs.Landing.{Running}
use Rattle.page_table.specs.Move.{On}
use Rattle.page_table.specs.Open.{OpenCatch}

pub returns-in-Ok-clause-acted : goal.returns-in-Ok-clause-acted
returns-in-Ok-clause-acted g c =
    let o = open_of c.args.opened.now in
    catch_exit (c.args.pc + 1 + c.args.size) (c.args.pc + 1) c.bodies.result c.args.world.now o (map catch_of c.push.new.self)
    (λ first origin s h. c.bodies.ensures ∙ (g.met.W.World.tells first c.args.world.now origin s h).1)
    (ap (map catch_of) c.in-Ok.ensures.ok
    ∙ ap (λ n. (let opened : OpenCatch = record { to = c.args.pc + 1 + c.args.size; values = n; bodies = c.bodies.result; loops = c.len-2.result } in opened) ∷ o.catches) c.len.ensures
    ∙ ap (λ n. (let opened : OpenCatch = record { to = c.args.pc + 1 + c.args.size; values = length o.stack; bodies = c.bodies.result; loops = n } in opened) ∷ o.catches) c.len-2.ensures)

pub returns-in-Err-clause-acted : goal.returns-in-Err-clause-acted
returns-in-Err-clause-acted g c =
    let o = open_of c.args.opened.now in
    acted_short (λ s. On (Running (c.args.pc + 1) s (with_catch (c.args.pc + 1 + c.args.size) s o))) c.args.world.now (record o { catches = map catch_of c.push.new.self }) (λ s. same s)
