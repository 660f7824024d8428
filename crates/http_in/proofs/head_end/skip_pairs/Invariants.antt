use Rattle.std.proofs.Common.{◌≡◌, ◌≤◌, length}
use Rattle.http_in.specs.HeadEnd.{skip_pairs}
use Rattle.http_in.proofs.head_end.skip_pairs.Given as goal

-- what is left has the same bytes after its line ends
abbrev pub invariant-loop-rest : goal.invariant-loop-rest
invariant-loop-rest l = (skip_pairs l.rest ≡ skip_pairs l.bytes) × (length l.rest ≤ length l.bytes)

abbrev pub decreases-loop-rest : goal.decreases-loop-rest
decreases-loop-rest l = length l.rest
