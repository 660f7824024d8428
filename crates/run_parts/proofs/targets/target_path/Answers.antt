use Rattle.std.proofs.Common.{◌≡◌, List, Some, ap, subst, sym, ◌∙◌, ℕ}
use Rattle.http_in.specs.Target.{before_query}
use Rattle.run_world.proofs.SeatLemmas.{run_path}
use Rattle.run_parts.proofs.targets.target_path.Goals as goal
use Rattle.run_world.specs.Programs.{program_of}
use Rattle.run_world.specs.Seats.{seat_of}
use Rattle.page_table.specs.Seat.{page_run_of}
use Rattle.pg_text.specs.Failure.{Answers}
use Rattle.pg_text.specs.Path.{resolved, segments}

pub returns : goal.returns
returns c =
    let path : (program_of c.program.result.now).path ≡ (page_run_of (seat_of c.args.seat.now)).page.path = ap (λ p. p.path) c.program.ensures ∙ sym (run_path (seat_of c.args.seat.now)) in
    subst (λ (p : List ℕ). Answers (resolved (segments (Some p) (before_query c.args.target.now))) c.resolve.result) path
    (subst (λ (t : List ℕ). Answers (resolved (segments (Some c.program.result.now.path) t)) c.resolve.result) c.before_query.ensures c.resolve.ensures)
