use Rattle.std.proofs.Common.{◌≡◌, ◌≤◌, ◌+◌, drop}
use Rattle.pages_load.specs.Load.{count, is_publishing}
use Rattle.pages_load.proofs.counting.publishings.Given as goal

-- such entries so far, and those from here on
abbrev pub invariant-loop-place : goal.invariant-loop-place
invariant-loop-place l = record { counted : count is_publishing l.history.items ≡ l.count + count is_publishing (drop l.place l.history.items); few : l.count ≤ l.place }
