use Rattle.std.proofs.Common.{◌≤◌, length}
use Rattle.page_pieces.proofs.name_run.kept_runs.Given as goal

abbrev pub invariant-loop-kept : goal.invariant-loop-kept
invariant-loop-kept l = l.kept ≤ length l.runs

abbrev pub decreases-loop-kept : goal.decreases-loop-kept
decreases-loop-kept l = l.kept
