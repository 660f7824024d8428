use Rattle.std.proofs.Common.{◌+◌, refl}
use Rattle.out_buffer.specs.Writer.{with_body}
use Rattle.run_moves.specs.Opened.{open_of}
use Rattle.run_moves.proofs.Acts.{acted_changed}
use Rattle.page_meaning.proofs.Growing.{quiet}
use Rattle.run_moves.proofs.Behind.{acted_spent}
use Rattle.run_moves.proofs.arms.start_body.Goals as goal
use Rattle.page_meaning.specs.State.{in_writer}
use Rattle.page_table.specs.Landing.{Running}
use Rattle.page_table.specs.Move.{On}

pub returns-in-Ok-clause-acted : goal.returns-in-Ok-clause-acted
returns-in-Ok-clause-acted g c =
    let o = open_of c.args.opened.now in
    acted_changed (λ s. On (Running (c.args.pc + 1) (in_writer (with_body s.writer) s) o)) (λ s. in_writer (with_body s.writer) s) c.args.world.now c.start_body.new.self o (c.args.pc + 1) (λ a s. refl) (λ s. refl)
    c.in-Ok.ensures.ok c.start_body.ensures.replies

pub returns-in-Err-clause-acted : goal.returns-in-Err-clause-acted
returns-in-Err-clause-acted g c =
    let o = open_of c.args.opened.now in
    acted_spent (λ s. On (Running (c.args.pc + 1) (in_writer (with_body s.writer) s) o)) c.args.world.now c.start_body.new.self o (λ s. quiet s (in_writer (with_body s.writer) s) refl refl refl)
    c.in-Err.ensures.err c.start_body.ensures.replies
