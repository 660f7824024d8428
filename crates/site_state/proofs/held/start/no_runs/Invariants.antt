use Rattle.std.proofs.Common.{◌≡◌, replicate, None}
use Rattle.site_state.proofs.held.start.no_runs.Given as goal

abbrev pub invariant-loop-pass : goal.invariant-loop-pass
invariant-loop-pass l = l.runs.items ≡ replicate l._pass None
