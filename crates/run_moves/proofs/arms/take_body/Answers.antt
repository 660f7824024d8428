use Rattle.std.proofs.Common.{◌+◌, ◌∷◌, sym, ap}
use Rattle.run_moves.specs.Opened.{open_of}
use Rattle.page_meaning.proofs.Growing.{same}
use Rattle.run_moves.proofs.Behind.{fell_at, well_at, well_short}
use Rattle.run_moves.proofs.arms.take_body.Goals as goal
use Rattle.page_table.specs.Act.{with_stack}
use Rattle.page_table.specs.Landing.{Running}
use Rattle.pg_value.specs.Datum.{text}

pub returns-in-Ok-push-clause-acted : goal.returns-in-Ok-push-clause-acted
returns-in-Ok-push-clause-acted g c =
    let o = open_of c.args.opened.now in
    well_at c.args.at.now.cell.place o (λ t s. Running (c.args.at.now.pc + 1) s (with_stack (text t ∷ o.stack) o)) c.args.world.now c.take_body.new.self c.in-Ok.text (with_stack c.push.new.self o) (c.args.at.now.pc + 1)
    (λ t. ap (λ z. Running (c.args.at.now.pc + 1) t (with_stack z o)) (sym c.in-Ok-push.ensures.ok)) c.in-Ok.ensures.does

pub returns-in-Err-push-clause-acted : goal.returns-in-Err-push-clause-acted
returns-in-Err-push-clause-acted g c =
    let o = open_of c.args.opened.now in
    well_short c.args.at.now.cell.place o (λ t s. Running (c.args.at.now.pc + 1) s (with_stack (text t ∷ o.stack) o)) c.args.world.now c.take_body.new.self c.in-Ok.text (with_stack c.push.new.self o) (λ t s. same s)
    c.in-Ok.ensures.does

pub returns-in-Err-clause-acted : goal.returns-in-Err-clause-acted
returns-in-Err-clause-acted g c =
    let o = open_of c.args.opened.now in
    fell_at c.args.at.now.cell.place o (λ t s. Running (c.args.at.now.pc + 1) s (with_stack (text t ∷ o.stack) o)) c.args.world.now c.take_body.new.self c.fail.new.world c.in-Err.failed (open_of c.fail.new.opened) c.fail.result
    (λ t s. same s) c.in-Err.ensures.does c.fail.ensures.acted c.fail.ensures.short
